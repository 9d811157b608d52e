-- A state that has a partition in the place of a copy describes the disks by the next descriptor.
use Rattle.std.proofs.Common.{◌≡◌, ◌⊎◌, inl, inr, ⊎_elim, ℕ, ◌<◌, Bool, true, false, ◌==◌, eqb-true, arith, List, Option, Some, None, refl, sym, ap, subst, ◌∙◌}
use Rattle.std.specs.Prelude.{IsTrue, IsFalse}
use Rattle.std.proofs.lemmas.Bool.{cases_Bool}
use Rattle.std.proofs.lemmas.Bool.Decides.{nat_tests}
use Rattle.lvm_num.specs.declared.place.Pp.{Pp}
use Rattle.lvm_num.specs.declared.descriptor.Descriptor.{Descriptor}
use Rattle.lvm_num.specs.declared.descriptor.LvRow.{LvRow}
use Rattle.lvm_num.specs.declared.status.Status.{Status}
use Rattle.lvm_num.specs.Descriptor.{copies_of, volume_of, is_pp}
use Rattle.lvm_num.specs.Geometry.{partition_of, volume_blocks}
use Rattle.lvm_num.specs.Modes.{is_active, is_passive}
use Rattle.lvm_num.specs.Record.{Stamped}
use Rattle.lvm_num.proofs.Booleans.{clash_gives}
use Rattle.lvm_num.proofs.DescriptorLemmas.Partitions.{one_partition}
use Rattle.lvm_vol.specs.declared.entry.Vol.TheVariants.{Lv}
use Rattle.lvm_vol.specs.Facts.{Fact}
use Rattle.lvm_vol.specs.May.{known}
use Rattle.lvm_vol.specs.Standing.{Standing, Settled, Open, Absent, Shape, volumes_in}
use Rattle.lvm_kept.specs.Contents.{Contents}
use Rattle.lvm_kept.specs.Group.{IsBlockOf, IsOneOf}
use Rattle.lvm_kept.specs.Kept.{StandsAs}
use Rattle.lvm_invariant.specs.State.{Beside, ModelState}
use Rattle.lvm_crash.specs.Session.{marks_shown, IsPlaceOf, IsBlockIn, HasVolumes, Shows, Describes}
use Rattle.lvm_even.specs.Members.{members_showing}
use Rattle.lvm_places.specs.Places.{Marking}
use Rattle.lvm_places.specs.Laws.{Replaces, replaced}
use Rattle.lvm_places.proofs.LawsLemmas.{in_fewer, left_off, was_copy}
use Rattle.lvm_move_laws.specs.Moving.{HasMoved, AreMoved, MovesIn, IsFor, MovedIsDescribed}

is_that : (n m : ℕ) → (n ≡ m) ⊎ (n ≡ m → ⊥)
is_that n m = by (n == m) refl
  where
    itself : (i : ℕ) → (i == i) ≡ true
    itself i = grind (nat_tests, arith)

    by : (t : Bool) → (n == m) ≡ t → (n ≡ m) ⊎ (n ≡ m → ⊥)
    by true is = inl (eqb-true n m is)
    by false is = inr (λ e. absurd (clash_gives (n == m) (subst (λ (i : ℕ). (n == i) ≡ true) e (itself n)) is))

some_none : {X A : Type 0} (x : X) → None ≡ Some x → A
some_none x e = absurd cc

module _ (s : ModelState) (k : Marking) (o : Beside) (group : Descriptor) (rows : List LvRow) (lv lp : ℕ) (from : Pp) (facts : List Fact) (c : Contents)
    (beside : s.beside ≡ Some o) (its : IsFor group.mib lv lp o) (may : Replaces s from o.place k) (moves : MovesIn lv lp from o.place group (record group { lvs = rows })) (member : IsTrue (members_showing c group o.place.disk))
    (status : (d : ℕ) → k.status d ≡ marks_shown None group.id (c.status d)) (idle : k.in_flight ≡ None) (describes : Describes s facts group None c) where
  abbrev next : Descriptor
  next = record group { lvs = rows }

  abbrev new : ModelState
  new = replaced s from k

  abbrev volumes : HasVolumes s facts group (members_showing c group)
  volumes = describes.volumes

  -- a block of the next volume is one of the volume
  block_of : (row r : LvRow) (n b : ℕ) → HasMoved lv lp from o.place row r → IsBlockOf group.mib r n b → IsBlockOf group.mib row n b
  block_of row r n b moved inside = record { inside = subst (λ (m : ℕ). n < m) moved.lps inside.inside; partition = inside.partition }

  -- what the state's copies at a block of the volume are
  places : (row : LvRow) (n b : ℕ) (p : Pp) → IsOneOf group.lvs row → IsBlockOf group.mib row n b → IsTrue (s.is_copy row.number b p)
      → (IsOneOf (copies_of row n) p ⊎ ((p ≡ o.place) × IsTrue (o.its row.number b))) × IsTrue (members_showing c group p.disk)
  places row n b p one inside copy =
      let both = (volumes.copies row n b p one inside).0 copy in
      (subst (λ (x : Option Beside). IsPlaceOf x row n b p) beside both.0, both.1)

  placed_back : (row : LvRow) (n b : ℕ) (p : Pp) → IsOneOf group.lvs row → IsBlockOf group.mib row n b → IsOneOf (copies_of row n) p ⊎ ((p ≡ o.place) × IsTrue (o.its row.number b)) → IsTrue (members_showing c group p.disk)
      → IsTrue (s.is_copy row.number b p)
  placed_back row n b p one inside place there = (volumes.copies row n b p one inside).1 (subst (λ (x : Option Beside). IsPlaceOf x row n b p) (sym beside) place, there)

  module _ (r : LvRow) (n b : ℕ) (p : Pp) (one : IsOneOf rows r) (inside : IsBlockOf group.mib r n b) where
    row : LvRow
    row = (moves.rows r one).0

    one_row : IsOneOf group.lvs row
    unfolding row
    one_row = (moves.rows r one).1

    moved : HasMoved lv lp from o.place row r
    unfolding row
    moved = (moves.rows r one).2

    its_block : IsBlockOf group.mib row n b
    its_block = block_of row r n b moved inside

    -- the other way the block would be one for which the partition stands
    apart_its : ((r.number ≡ lv) × (n ≡ lp) → ⊥) → IsTrue (o.its row.number b) → ⊥
    apart_its apart at = let is = its.its row.number b at in apart (moved.number ∙ is.0, sym inside.partition ∙ is.1)

    goes : IsTrue (new.is_copy r.number b p) → IsOneOf (copies_of r n) p × IsTrue (members_showing c group p.disk)
    goes copy =
        let off = left_off s from r.number b p copy in
        let was = subst (λ (m : ℕ). IsTrue (s.is_copy m b p)) moved.number (was_copy s from r.number b p copy) in
        let place = places row n b p one_row its_block was in (
          ⊎_elim
              (λ (same : r.number ≡ lv). ⊎_elim
              (λ (here : n ≡ lp). subst (λ (m : ℕ). IsOneOf (copies_of r m) p) (sym here) (⊎_elim
              (λ (old : IsOneOf (copies_of row n) p). moved.stays same p (subst (λ (m : ℕ). IsOneOf (copies_of row m) p) here old) off)
              (λ (at : (p ≡ o.place) × IsTrue (o.its row.number b)). subst (λ (e : Pp). IsOneOf (copies_of r lp) e) (sym at.0) (moved.comes same))
              place.0))
              (λ (there : n ≡ lp → ⊥). elsewhere (λ both. there both.1) place.0)
              (is_that n lp))
              (λ (other : r.number ≡ lv → ⊥). elsewhere (λ both. other both.0) place.0)
              (is_that r.number lv),
          place.1,
        )
      where
        elsewhere : ((r.number ≡ lv) × (n ≡ lp) → ⊥) → IsOneOf (copies_of row n) p ⊎ ((p ≡ o.place) × IsTrue (o.its row.number b)) → IsOneOf (copies_of r n) p
        elsewhere apart (inl old) = (moved.there n p apart).1 old
        elsewhere apart (inr at) = absurd (apart_its apart at.1)

    -- a copy of another logical partition isn't the one that moved
    not_from : ((r.number ≡ lv) × (n ≡ lp) → ⊥) → IsTrue (s.is_copy row.number b p) → IsFalse (is_pp p from)
    not_from apart copy = ⊎_elim
        (λ (at : IsTrue (is_pp p from)).
        let to_there = may.alone row.number b (subst (λ (e : Pp). IsTrue (s.is_copy row.number b e)) (one_partition p from at) copy) in
        let place = places row n b o.place one_row its_block to_there in
        absurd (⊎_elim
        (λ (old : IsOneOf (copies_of row n) o.place). (volumes.free o beside).free row n one_row its_block.inside old)
        (λ (x : (o.place ≡ o.place) × IsTrue (o.its row.number b)). apart_its apart x.1)
        place.0))
        (λ (off : IsFalse (is_pp p from)). off)
        (cases_Bool (is_pp p from))

    comes_new : IsTrue (s.is_copy row.number b p) → IsFalse (is_pp p from) → IsTrue (new.is_copy r.number b p)
    comes_new copy off = in_fewer s from r.number b p off ∙ subst (λ (m : ℕ). IsTrue (s.is_copy m b p)) (sym moved.number) copy

    comes : IsOneOf (copies_of r n) p × IsTrue (members_showing c group p.disk) → IsTrue (new.is_copy r.number b p)
    comes both = ⊎_elim
        (λ (same : r.number ≡ lv). ⊎_elim
        (λ (here : n ≡ lp). ⊎_elim
        (λ (at : p ≡ o.place).
        comes_new (placed_back row n b p one_row its_block (inr (at, its.all row.number b (sym moved.number ∙ same) (inside.partition ∙ here))) both.1) (subst (λ (e : Pp). IsFalse (is_pp e from)) (sym at) may.apart))
        (λ (old : IsOneOf (copies_of row lp) p × IsFalse (is_pp p from)).
        comes_new (placed_back row n b p one_row its_block (inl (subst (λ (m : ℕ). IsOneOf (copies_of row m) p) (sym here) old.0)) both.1) old.1)
        (moved.here same p (subst (λ (m : ℕ). IsOneOf (copies_of r m) p) here both.0)))
        (λ (there : n ≡ lp → ⊥). elsewhere (λ x. there x.1))
        (is_that n lp))
        (λ (other : r.number ≡ lv → ⊥). elsewhere (λ x. other x.0))
        (is_that r.number lv)
      where
        elsewhere : ((r.number ≡ lv) × (n ≡ lp) → ⊥) → IsTrue (new.is_copy r.number b p)
        elsewhere apart = let copy = placed_back row n b p one_row its_block (inl ((moved.there n p apart).0 both.0)) both.1 in comes_new copy (not_from apart copy)

  some_copy : (r : LvRow) (n : ℕ) → IsOneOf rows r → n < r.lps → (p : Pp) × IsOneOf (copies_of r n) p × IsTrue (members_showing c group p.disk)
  some_copy r n one low =
      let was = moves.rows r one in
      let moved = was.2 in
      let old = volumes.some was.0 n was.1 (subst (λ (m : ℕ). n < m) moved.lps low) in
      ⊎_elim
      (λ (same : r.number ≡ lv). ⊎_elim
      (λ (here : n ≡ lp). (o.place, subst (λ (m : ℕ). IsOneOf (copies_of r m) o.place) (sym here) (moved.comes same), member))
      (λ (there : n ≡ lp → ⊥). (old.0, (moved.there n old.0 (λ x. there x.1)).1 old.1, old.2))
      (is_that n lp))
      (λ (other : r.number ≡ lv → ⊥). (old.0, (moved.there n old.0 (λ x. other x.0)).1 old.1, old.2))
      (is_that r.number lv)

  inside_new : (l b : ℕ) (p : Pp) → IsTrue (new.is_copy l b p) → IsBlockIn next l b
  inside_new l b p copy =
      let old = volumes.inside l b p (was_copy s from l b p copy) in
      let is = moves.back old.row old.volume in
      record { row = is.0; lp = old.lp; volume = is.1; number = is.2.number ∙ old.number; inside = record { inside = subst (λ (m : ℕ). old.lp < m) (sym is.2.lps) old.inside.inside; partition = old.inside.partition } }

  stands_so : (row r : LvRow) (st : Standing) (shape : Option Shape) → HasMoved lv lp from o.place row r → StandsAs group.mib st shape (Some row) → StandsAs group.mib st shape (Some r)
  stands_so row r Settled shape moved h = h ∙ (λ t. Some (record { blocks = volume_blocks group.mib (sym moved.lps t); mode = sym moved.mode t }))
  stands_so row r Open shape moved h = h ∙ (λ t. Some (record { blocks = volume_blocks group.mib (sym moved.lps t); mode = sym moved.mode t }))
  stands_so row r Absent shape moved h = h

  history_new : (n : ℕ) → StandsAs group.mib (volumes_in facts n).standing (volumes_in facts n).shape (volume_of next n)
  history_new n = ⊎_elim
      (λ (none : (volume_of group n ≡ None) × (volume_of next n ≡ None)).
      subst (StandsAs group.mib (volumes_in facts n).standing (volumes_in facts n).shape) (none.0 ∙ sym none.1) (volumes.history n))
      (λ (both : AreMoved lv lp from o.place group next n).
      subst (StandsAs group.mib (volumes_in facts n).standing (volumes_in facts n).shape) (sym both.new_is)
      (stands_so both.row both.new (volumes_in facts n).standing (volumes_in facts n).shape both.moved (subst (StandsAs group.mib (volumes_in facts n).standing (volumes_in facts n).shape) both.row_is (volumes.history n))))
      (moves.numbers n)

  volumes_new : HasVolumes new facts next (members_showing c next)
  volumes_new = record {
    copies = λ r n b p one inside. (goes r n b p one inside, comes r n b p one inside);
    free = λ x is. some_none x is;
    inside = inside_new;
    some = some_copy;
    notes = λ r one. let was = moves.rows r one in ap s.is_active was.2.number ∙ volumes.notes was.0 was.1 ∙ ap is_active (sym was.2.mode);
    mark = λ r one. let was = moves.rows r one in ap s.is_passive was.2.number ∙ volumes.mark was.0 was.1 ∙ ap is_passive (sym was.2.mode);
    modes = λ r n b one inside.
        let was = moves.rows r one in
        ap (λ (m : ℕ). (known facts (Lv m) b).mode) was.2.number ∙ volumes.modes was.0 n b was.1 (block_of was.0 r n b was.2 inside) ∙ sym was.2.mode;
    history = history_new;
  }

  shows_new : Shows new next None c
  shows_new = record {
    blocks = λ l b p copy. describes.shown.blocks l b p (was_copy s from l b p copy);
    names = describes.shown.names;
    status = status;
    statuses = record {
      same = idle;
      own = λ u is. some_none u is;
      once = describes.shown.statuses.once;
      new = λ u d r is there ids stamps. some_none u is;
    };
  }

pub moved_is_described : MovedIsDescribed
moved_is_described s k o group rows lv lp from facts c beside its may moves member status idle describes = (
  volumes_new s k o group rows lv lp from facts c beside its may moves member status idle describes,
  shows_new s k o group rows lv lp from facts c beside its may moves member status idle describes,
)
