-- A state with a place more, or one fewer, describes what stands on the disks.
use Rattle.std.proofs.Common.{◌≡◌, ◌↔◌, ◌⊎◌, inl, inr, ⊎_elim, ℕ, Bool, true, false, List, Option, Some, None, refl, sym, ap, subst, ◌∙◌}
use Rattle.std.specs.Prelude.{IsTrue, IsFalse, if◌then◌else◌, option_map}
use Rattle.lvm_num.specs.declared.place.Pp.{Pp}
use Rattle.lvm_num.specs.declared.descriptor.Descriptor.{Descriptor}
use Rattle.lvm_num.specs.declared.descriptor.LvRow.{LvRow}
use Rattle.lvm_num.specs.declared.status.Status.{Status}
use Rattle.lvm_num.specs.Descriptor.{copies_of, is_pp}
use Rattle.lvm_num.specs.Record.{Stamped}
use Rattle.lvm_num.proofs.DescriptorLemmas.Partitions.{one_partition, same_partition}
use Rattle.lvm_vol.specs.Facts.{Fact}
use Rattle.lvm_kept.specs.Contents.{Contents}
use Rattle.lvm_kept.specs.Group.{IsBlockOf, IsOneOf, block_at, if_passes, is_status_of}
use Rattle.lvm_invariant.specs.State.{Beside, ModelState}
use Rattle.lvm_crash.specs.Session.{Describes, HasVolumes, IsBlockIn, IsFreePlace, IsPlaceOf, Shows, as_marks, marks_shown}
use Rattle.lvm_even.specs.Members.{members_showing}
use Rattle.lvm_places.specs.Places.{BlocksOf, Marking}
use Rattle.lvm_places.specs.Laws.{appeared, as_stale, gone}
use Rattle.lvm_places.specs.Described.{AppearedIsDescribed, GoneIsDescribed, MayAppear}

clash : {A : Type 0} (b : Bool) → b ≡ true → b ≡ false → A
clash b t f = absurd (let e : true ≡ false = sym t ∙ f in cc)

-- ---- one more

module _ (s : ModelState) (facts : List Fact) (group : Descriptor) (in_flight : Option (Stamped Status)) (c : Contents) (o : Beside) (block : BlocksOf) (may : MayAppear s group c o block) (describes : Describes s facts group in_flight c) where
  abbrev to : Pp
  to = o.place

  abbrev new : ModelState
  new = appeared s to o.its block

  abbrev volumes : HasVolumes s facts group (members_showing c group)
  volumes = describes.volumes

  copies_now : (row : LvRow) (lp b : ℕ) (p : Pp) → IsOneOf group.lvs row → IsBlockOf group.mib row lp b → IsTrue (new.is_copy row.number b p) ↔ (IsPlaceOf (Some o) row lp b p × IsTrue (members_showing c group p.disk))
  copies_now row lp b p one inside = by (is_pp p to) refl
    where
      was : IsTrue (s.is_copy row.number b p) ↔ (IsOneOf (copies_of row lp) p × IsTrue (members_showing c group p.disk))
      was = subst (λ (m : Option Beside). IsTrue (s.is_copy row.number b p) ↔ (IsPlaceOf m row lp b p × IsTrue (members_showing c group p.disk))) may.none (volumes.copies row lp b p one inside)

      by : (t : Bool) → is_pp p to ≡ t → IsTrue (if t then o.its row.number b else s.is_copy row.number b p) ↔ (IsPlaceOf (Some o) row lp b p × IsTrue (members_showing c group p.disk))
      by true at = (
        λ its. (inr (one_partition p to at, its), ap (λ (q : Pp). members_showing c group q.disk) (one_partition p to at) ∙ may.member),
        λ place. ⊎_elim
            (λ (copy : IsOneOf (copies_of row lp) p). absurd (may.free.free row lp one inside.inside (subst (IsOneOf (copies_of row lp)) (one_partition p to at) copy)))
            (λ (x : (p ≡ to) × IsTrue (o.its row.number b)). x.1)
            place.0,
      )
      by false off = (
        λ copy. let old = was.0 copy in (inl old.0, old.1),
        λ place. ⊎_elim
            (λ (copy : IsOneOf (copies_of row lp) p). was.1 (copy, place.1))
            (λ (x : (p ≡ to) × IsTrue (o.its row.number b)). clash (is_pp p to) (same_partition p to x.0) off)
            place.0,
      )

  inside_now : (lv b : ℕ) (p : Pp) → IsTrue (new.is_copy lv b p) → IsBlockIn group lv b
  inside_now lv b p = by (is_pp p to)
    where
      by : (t : Bool) → IsTrue (if t then o.its lv b else s.is_copy lv b p) → IsBlockIn group lv b
      by true its = let at = (may.stands lv b).0 its in record { row = may.row; lp = may.lp; volume = may.one; number = sym at.0; inside = at.1 }
      by false copy = volumes.inside lv b p copy

  volumes_now : HasVolumes new facts group (members_showing c group)
  volumes_now = record {
    copies = copies_now;
    free = λ x is. subst (IsFreePlace group) (let e : o ≡ x = (let k : Some o ≡ Some x = is in cc) in e) may.free;
    inside = inside_now;
    some = volumes.some;
    notes = volumes.notes;
    mark = volumes.mark;
    modes = volumes.modes;
    history = volumes.history;
  }

  stale_of : (m : Option (Stamped Status)) → option_map (as_stale to) (option_map (as_marks None) m) ≡ option_map (as_marks (Some o)) m
  stale_of None = refl
  stale_of (Some r) = refl

  shown_now : Shows new group in_flight c
  shown_now = record {
    blocks = λ lv b p copy. by lv b p (is_pp p to) refl copy;
    names = describes.shown.names;
    status = λ d. ap (option_map (as_stale to)) (describes.shown.status d ∙ ap (λ (m : Option Beside). marks_shown m group.id (c.status d)) may.none) ∙ stale_of (if_passes (is_status_of group.id) (c.status d));
    statuses = record {
      same = ap (option_map (as_stale to)) (describes.shown.statuses.same ∙ ap (λ (m : Option Beside). option_map (as_marks m) in_flight) may.none) ∙ stale_of in_flight;
      own = describes.shown.statuses.own;
      once = describes.shown.statuses.once;
      new = describes.shown.statuses.new;
    };
  }
    where
      by : (lv b : ℕ) (p : Pp) (t : Bool) → is_pp p to ≡ t → IsTrue (if t then o.its lv b else s.is_copy lv b p) → block lv b p ≡ block_at c group.mib p b
      by lv b p true at its = subst (λ (q : Pp). block lv b q ≡ block_at c group.mib q b) (sym (one_partition p to at)) (may.here lv b)
      by lv b p false off copy = may.same lv b p off ∙ describes.shown.blocks lv b p copy

  pub appeared_described : Describes new facts group in_flight c
  appeared_described = record { stands = describes.stands; volumes = volumes_now; shown = shown_now; raw = describes.raw }

pub appeared_is_described : AppearedIsDescribed
appeared_is_described s facts group in_flight c o block may describes = appeared_described s facts group in_flight c o block may describes

-- ---- one fewer

module _ (s : ModelState) (facts : List Fact) (group : Descriptor) (in_flight : Option (Stamped Status)) (c : Contents) (o : Beside) (k : Marking) (beside : s.beside ≡ Some o)
    (status : (d : ℕ) → k.status d ≡ marks_shown None group.id (c.status d)) (flies : k.in_flight ≡ option_map (as_marks None) in_flight) (describes : Describes s facts group in_flight c) where
  abbrev place : Pp
  place = o.place

  abbrev left : ModelState
  left = gone s place k

  abbrev had : HasVolumes s facts group (members_showing c group)
  had = describes.volumes

  copies_left : (row : LvRow) (lp b : ℕ) (p : Pp) → IsOneOf group.lvs row → IsBlockOf group.mib row lp b → IsTrue (left.is_copy row.number b p) ↔ (IsOneOf (copies_of row lp) p × IsTrue (members_showing c group p.disk))
  copies_left row lp b p one inside = by (is_pp p place) refl
    where
      was : IsTrue (s.is_copy row.number b p) ↔ ((IsOneOf (copies_of row lp) p ⊎ ((p ≡ place) × IsTrue (o.its row.number b))) × IsTrue (members_showing c group p.disk))
      was = subst (λ (m : Option Beside). IsTrue (s.is_copy row.number b p) ↔ (IsPlaceOf m row lp b p × IsTrue (members_showing c group p.disk))) beside (had.copies row lp b p one inside)

      by : (t : Bool) → is_pp p place ≡ t → IsTrue (if t then false else s.is_copy row.number b p) ↔ (IsOneOf (copies_of row lp) p × IsTrue (members_showing c group p.disk))
      by true at = (
        λ none. absurd (cc none),
        λ copy. absurd ((had.free o beside).free row lp one inside.inside (subst (IsOneOf (copies_of row lp)) (one_partition p place at) copy.0)),
      )
      by false off = (
        λ copy. let old = was.0 copy in (⊎_elim (λ one_of. one_of) (λ (x : (p ≡ place) × IsTrue (o.its row.number b)). clash (is_pp p place) (same_partition p place x.0) off) old.0, old.1),
        λ copy. was.1 (inl copy.0, copy.1),
      )

  was_so : (lv b : ℕ) (p : Pp) → IsTrue (left.is_copy lv b p) → IsTrue (s.is_copy lv b p)
  was_so lv b p = by (is_pp p place)
    where
      by : (t : Bool) → IsTrue (if t then false else s.is_copy lv b p) → IsTrue (s.is_copy lv b p)
      by true none = absurd (cc none)
      by false copy = copy

  pub gone_described : Describes left facts group in_flight c
  gone_described = record {
    stands = describes.stands;
    volumes = record {
      copies = copies_left;
      free = λ x is. absurd (cc is);
      inside = λ lv b p copy. had.inside lv b p (was_so lv b p copy);
      some = had.some;
      notes = had.notes;
      mark = had.mark;
      modes = had.modes;
      history = had.history;
    };
    shown = record {
      blocks = λ lv b p copy. describes.shown.blocks lv b p (was_so lv b p copy);
      names = describes.shown.names;
      status = status;
      statuses = record { same = flies; own = describes.shown.statuses.own; once = describes.shown.statuses.once; new = describes.shown.statuses.new };
    };
    raw = describes.raw;
  }

pub gone_is_described : GoneIsDescribed
gone_is_described s facts group in_flight c o k beside status flies describes = gone_described s facts group in_flight c o k beside status flies describes
