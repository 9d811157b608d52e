-- A group turns from one descriptor to its neighbour.
use Rattle.std.proofs.Common.{◌≡◌, ◌⊎◌, inl, inr, ⊎_elim, ℕ, ◌<◌, Bool, true, false, ◌&&◌, List, [], ◌∷◌, ◌++◌, Option, Some, None, refl, sym, ap, subst, ◌∙◌, arith, eq-eqb}
use Rattle.std.specs.Prelude.{IsTrue, ◌==◌, not, if◌then◌else◌, filter}
use Rattle.std.proofs.lemmas.Option.{same_Some}
use Rattle.std.proofs.lemmas.Bool.{eqb-true, cases_eq, and_parts}
use Rattle.std.proofs.lemmas.Bool.Decides.{nat_tests}
use Rattle.lvm_disk.specs.passed.Num.{Stamp, Pp, PvRow, LvRow, Descriptor, Status, Disks, copies_of, member_of, volume_of, all_disks, CanRead, Stamped, stamp_lt, newest_below}
use Rattle.lvm_disk.proofs.passed.Num.{is_one, is_last, without_first, read_meets_read}
use Rattle.lvm_vol.specs.declared.entry.Vol.TheVariants.{Lv}
use Rattle.lvm_vol.specs.Facts.{Fact, Cut}
use Rattle.lvm_vol.specs.May.{Known, known}
use Rattle.lvm_vol.specs.Standing.{volumes_in}
use Rattle.lvm_kept.specs.Contents.{Contents}
use Rattle.lvm_kept.specs.Group.{IsOneOf, if_passes, passes, is_of, is_status_of, has_room, descriptor_among, is_voter, status_among, Finds, IsFound, members_in, status_by, ReadsGroup, ReadsBy, is_stale_by, fresh_on, IsBlockOf, IsSome}
use Rattle.lvm_kept.specs.Kept.{StandsAs, HasStatus, IsBlockKept, BlocksKept, IsSettledIn, IsAvailable, Kept}
use Rattle.lvm_kept.specs.Committed.{IsWithinDisks}
use Rattle.lvm_kept.proofs.CommittedLemmas.Finding.{offered, is_offered, offers, finding_reads, finds_from}
use Rattle.lvm_kept.proofs.ChangesLemmas.Entries.{volume_is_row}
use Rattle.lvm_kept.proofs.ChangesLemmas.Restamping.{fewer_blocks}
use Rattle.lvm_kept.proofs.KeptLemmas.{same_block}
use Rattle.lvm_change_votes.proofs.MeetingLemmas.{lasting_meets}
use Rattle.lvm_change_laws.specs.Turning.{AreTwo, FindsTwo, ReadsTwo, DoesFor, Served, TransitionKeeps, TurnIsDone, ReadsAreTwo}
use Rattle.lvm_change_laws.proofs.Words.{filter_same, newest_looked}

not-itself : (a : Stamp) → stamp_lt a a ≡ true → ⊥
not-itself a e = grind (arith, nat_tests)

both : (b : Bool) → b ≡ true → b ≡ false → ⊥
both true p q = absurd cc
both false p q = absurd cc

module _ (old : Contents) (shown : ℕ → Option (Stamped Descriptor)) (g h : Descriptor) (targets : Disks) (next : Stamped Descriptor)
    (two : AreTwo g h) (value : next.value ≡ h)
    (own : (d : ℕ) → (shown d ≡ old.descriptor d) ⊎ (IsTrue (targets d) × (shown d ≡ Some next)))
    (showing : (d : ℕ) → IsTrue (targets d) → IsTrue (passes (is_of g.id) (old.descriptor d)) ⊎ ((old.descriptor d ≡ None) × (member_of g d ≡ None)))
    (later : (d : ℕ) (r : Stamped Descriptor) → old.descriptor d ≡ Some r → r.value.id ≡ g.id → (stamp_lt r.stamp next.stamp ≡ true) ⊎ (r ≡ next))
    (finds : FindsTwo old g h)
    (within : IsWithinDisks old) (within_new : (d : ℕ) (r : Stamped Descriptor) → shown d ≡ Some r → d < old.disks) where
  abbrev new : Contents
  new = record old { descriptor = shown }

  abbrev id : ℕ
  id = g.id

  next_id : next.value.id ≡ id
  next_id = ap (λ (x : Descriptor). x.id) value ∙ sym two.id

  -- of another group each disk shows what it showed
  shows_none : (i d : ℕ) → (i ≡ id → ⊥) → IsTrue (targets d) → passes (is_of i) (old.descriptor d) ≡ false
  shows_none i d apart target = ⊎_elim
      (λ (its : IsTrue (passes (is_of id) (old.descriptor d))). of_other (old.descriptor d) its)
      (λ (none : (old.descriptor d ≡ None) × (member_of g d ≡ None)). ap (passes (is_of i)) none.0)
      (showing d target)
    where
      by_test : (r : Stamped Descriptor) (t : Bool) → (r.value.id == i) ≡ t → r.value.id ≡ id → t ≡ false
      by_test r true is its = absurd (apart (sym (eqb-true r.value.id i is) ∙ its))
      by_test r false is its = refl

      of_other : (o : Option (Stamped Descriptor)) → IsTrue (passes (is_of id) o) → passes (is_of i) o ≡ false
      of_other None its = refl
      of_other (Some r) its = by_test r (r.value.id == i) refl (eqb-true r.value.id id its)

  next_other : (i : ℕ) → (i ≡ id → ⊥) → (next.value.id == i) ≡ false
  next_other i apart = by_test (next.value.id == i) refl
    where
      by_test : (t : Bool) → (next.value.id == i) ≡ t → t ≡ false
      by_test true is = absurd (apart (sym (eqb-true next.value.id i is) ∙ next_id))
      by_test false is = refl

  other_same : (i d : ℕ) → (i ≡ id → ⊥) → passes (is_of i) (shown d) ≡ passes (is_of i) (old.descriptor d)
  other_same i d apart = ⊎_elim
      (λ same. ap (passes (is_of i)) same)
      (λ (put : IsTrue (targets d) × (shown d ≡ Some next)). ap (passes (is_of i)) put.1 ∙ next_other i apart ∙ sym (shows_none i d apart put.0))
      (own d)

  none_if_fails : (i : ℕ) (o : Option (Stamped Descriptor)) → passes (is_of i) o ≡ false → if_passes (is_of i) o ≡ None
  none_if_fails i None e = refl
  none_if_fails i (Some r) e = ap (λ (t : Bool). if t then Some r else None) e

  other_offer : (i d : ℕ) → (i ≡ id → ⊥) → if_passes (is_of i) (shown d) ≡ if_passes (is_of i) (old.descriptor d)
  other_offer i d apart = ⊎_elim
      (λ same. ap (if_passes (is_of i)) same)
      (λ (put : IsTrue (targets d) × (shown d ≡ Some next)). none_if_fails i (shown d) (other_same i d apart ∙ shows_none i d apart put.0) ∙ sym (none_if_fails i (old.descriptor d) (shows_none i d apart put.0)))
      (own d)

  -- ---- what is found

  -- The newest of a set was its newest before, and each of its disks shows the group that it showed.
  record Before (disks : Disks) (i : ℕ) (m : Stamped Descriptor) : Type 0 where
    among : descriptor_among old disks i ≡ Some m
    same : (d : ℕ) → IsTrue (disks d) → passes (is_of i) (shown d) ≡ passes (is_of i) (old.descriptor d)

  -- ... where none of the set shows the next one
  unturned : (disks : Disks) (m : Stamped Descriptor) → descriptor_among new disks id ≡ Some m → ((d : ℕ) → IsTrue (disks d) → shown d ≡ old.descriptor d) → Before disks id m
  unfolding descriptor_among
  unturned disks m newest still = record {
    among = before newest;
    same = λ d in_set. ap (passes (is_of id)) (still d in_set);
  }
    where
      offer : (d : ℕ) → offered (is_of id) shown disks d ≡ offered (is_of id) old.descriptor disks d
      offer d = by_set (disks d) refl
        where
          by_set : (t : Bool) → disks d ≡ t → (if t then if_passes (is_of id) (shown d) else None) ≡ (if t then if_passes (is_of id) (old.descriptor d) else None)
          by_set true is = ap (if_passes (is_of id)) (still d is)
          by_set false is = refl

      before : descriptor_among new disks id ≡ Some m → descriptor_among old disks id ≡ Some m
      before e = (λ t. newest_below (λ d. sym (offer d) t) old.disks) ∙ e

  of_other : (disks : Disks) (i : ℕ) (m : Stamped Descriptor) → (i ≡ id → ⊥) → descriptor_among new disks i ≡ Some m → Before disks i m
  unfolding descriptor_among
  of_other disks i m apart newest = record { among = before newest; same = λ d in_set. other_same i d apart }
    where
      before : descriptor_among new disks i ≡ Some m → descriptor_among old disks i ≡ Some m
      before e = (λ t. newest_below (λ d. if disks d then sym (other_offer i d apart) t else None) old.disks) ∙ e

  -- a set that shows the next one has it as its newest
  turned : (disks : Disks) (m : Stamped Descriptor) (d : ℕ) → descriptor_among new disks id ≡ Some m → IsTrue (disks d) → shown d ≡ Some next → m ≡ next
  unfolding descriptor_among
  turned disks m d newest in_set is =
      let last = is_last Descriptor (offered (is_of id) shown disks) old.disks d next (within_new d next is) (offers (is_of id) shown disks d next in_set is (eq-eqb next.value.id id next_id)) in
      let it : last.0 ≡ m = same_Some last.0 m (sym last.1 ∙ newest) in
      let first = is_one Descriptor (offered (is_of id) shown disks) old.disks m newest in
      let from = is_offered (is_of id) shown disks first.0 m first.2 in
      let not_later : stamp_lt m.stamp next.stamp ≡ false = ap (λ (x : Stamped Descriptor). stamp_lt x.stamp next.stamp) (sym it) ∙ last.2 in
      ⊎_elim
      (λ (same : shown first.0 ≡ old.descriptor first.0). ⊎_elim
      (λ (low : stamp_lt m.stamp next.stamp ≡ true). absurd (both (stamp_lt m.stamp next.stamp) low not_later))
      (λ (e : m ≡ next). e)
      (later first.0 m (sym same ∙ from.0) (eqb-true m.value.id id from.1)))
      (λ (put : IsTrue (targets first.0) × (shown first.0 ≡ Some next)). same_Some m next (sym from.0 ∙ put.1))
      (own first.0)

  -- whether some of its disks shows the next one is told by its newest
  next_or_before : (disks : Disks) (m : Stamped Descriptor) → descriptor_among new disks id ≡ Some m → (m ≡ next) ⊎ Before disks id m
  unfolding descriptor_among
  next_or_before disks m newest = by_first (first newest)
    where
      first : descriptor_among new disks id ≡ Some m → (d : ℕ) × (shown d ≡ Some m) × (m.value.id ≡ id)
      first e =
          let one = is_one Descriptor (offered (is_of id) shown disks) old.disks m e in
          let from = is_offered (is_of id) shown disks one.0 m one.2 in
          (one.0, from.0, eqb-true m.value.id id from.1)

      still : stamp_lt m.stamp next.stamp ≡ true → (d : ℕ) → IsTrue (disks d) → shown d ≡ old.descriptor d
      still low d in_set = ⊎_elim
          (λ same. same)
          (λ (put : IsTrue (targets d) × (shown d ≡ Some next)). absurd (not-itself next.stamp (ap (λ (x : Stamped Descriptor). stamp_lt x.stamp next.stamp) (sym (turned disks m d newest in_set put.1)) ∙ low)))
          (own d)

      by_first : (d : ℕ) × (shown d ≡ Some m) × (m.value.id ≡ id) → (m ≡ next) ⊎ Before disks id m
      by_first one = ⊎_elim
          (λ (same : shown one.0 ≡ old.descriptor one.0). ⊎_elim
          (λ (low : stamp_lt m.stamp next.stamp ≡ true). inr (unturned disks m newest (still low)))
          (λ (e : m ≡ next). inl e)
          (later one.0 m (sym same ∙ one.1) one.2))
          (λ (put : IsTrue (targets one.0) × (shown one.0 ≡ Some next)). inl (same_Some m next (sym one.1 ∙ put.1)))
          (own one.0)

  members_before : (disks : Disks) (i : ℕ) (k : Descriptor) → ((d : ℕ) → IsTrue (disks d) → passes (is_of i) (shown d) ≡ passes (is_of i) (old.descriptor d)) → members_in new disks i k ≡ members_in old disks i k
  members_before disks i k same = λ t d. each d t
    where
      each : (d : ℕ) → members_in new disks i k d ≡ members_in old disks i k d
      each d = by_set (disks d) refl
        where
          by_set : (t : Bool) → disks d ≡ t → (t && passes (is_of i) (shown d) && has_room old d k) ≡ (t && passes (is_of i) (old.descriptor d) && has_room old d k)
          by_set true is = ap (λ (p : Bool). p && has_room old d k) (same d is)
          by_set false is = refl

  finds_before : (disks : Disks) (i : ℕ) (k : Descriptor) (f : Finds new disks i k) → Before disks i f.newest → Finds old disks i k
  finds_before disks i k f b =
      let reads : ReadsBy new disks i k = finding_reads new disks i k f in
      let enough : CanRead f.newest.value (members_in old disks i f.newest.value) =
      subst (λ (x : Descriptor). CanRead x (members_in old disks i x)) (sym f.is) (subst (λ (v : Disks). CanRead k v) (members_before disks i k b.same) reads.reads.enough) in
      subst (λ (x : Descriptor). Finds old disks i x) f.is (finds_from old disks i f.newest b.among enough)

  pub finds_two : FindsTwo new g h
  finds_two disks k f = ⊎_elim
      (λ (e : f.newest ≡ next). inr (sym f.is ∙ ap (λ (x : Stamped Descriptor). x.value) e ∙ value))
      (λ (b : Before disks id f.newest). finds disks k (finds_before disks id k f b))
      (next_or_before disks f.newest f.found)

  other_finds : (disks : Disks) (i : ℕ) (k : Descriptor) → (i ≡ id → ⊥) → Finds new disks i k → Finds old disks i k
  other_finds disks i k apart f = finds_before disks i k f (of_other disks i f.newest apart f.found)

  other_found : (i : ℕ) (k : Descriptor) → (i ≡ id → ⊥) → IsFound new i k → IsFound old i k
  other_found i k apart is = (is.0, other_finds is.0 i k apart is.1)

  other_members : (disks : Disks) (i : ℕ) (k : Descriptor) → (i ≡ id → ⊥) → members_in new disks i k ≡ members_in old disks i k
  other_members disks i k apart = members_before disks i k (λ d in_set. other_same i d apart)

  other_status : (disks : Disks) (i : ℕ) (k : Descriptor) → (i ≡ id → ⊥) → status_by new disks i k ≡ status_by old disks i k
  other_status disks i k apart =
      let same : members_in new disks i k ≡ members_in old disks i k = other_members disks i k apart in
      λ t. newest_below (λ d. if same t d then if_passes (is_status_of i) (old.status d) else None) old.disks

  other_reads : (disks : Disks) (i : ℕ) (k : Descriptor) → (i ≡ id → ⊥) → ReadsGroup new disks i k → ReadsGroup old disks i k
  other_reads disks i k apart r = record { found = other_found i k apart r.found; enough = subst (λ (v : Disks). CanRead k v) (other_members disks i k apart) r.enough }

  -- ---- copies

  -- the group by one of the two
  abbrev IsEither : Descriptor → Type 0
  IsEither k = (k ≡ g) ⊎ (k ≡ h)

  shows_copy : (row : LvRow) (lp : ℕ) (p : Pp) → IsOneOf g.lvs row → IsOneOf (copies_of row lp) p → passes (is_of id) (shown p.disk) ≡ passes (is_of id) (old.descriptor p.disk)
  shows_copy row lp p one copy = ⊎_elim
      (λ same. ap (passes (is_of id)) same)
      (λ (put : IsTrue (targets p.disk) × (shown p.disk ≡ Some next)). ⊎_elim
      (λ (its : IsTrue (passes (is_of id) (old.descriptor p.disk))). ap (passes (is_of id)) put.1 ∙ eq-eqb next.value.id id next_id ∙ sym its)
      (λ (none : (old.descriptor p.disk ≡ None) × (member_of g p.disk ≡ None)). absurd (let at = two.places row lp p one copy in let e : Some at.0 ≡ None = sym at.2 ∙ none.1 in cc (e)))
      (showing p.disk put.0))
      (own p.disk)

  room_copy : (k : Descriptor) → IsEither k → (row : LvRow) (lp : ℕ) (p : Pp) → IsOneOf g.lvs row → IsOneOf (copies_of row lp) p → has_room old p.disk k ≡ has_room old p.disk g
  room_copy k (inl e) row lp p one copy = ap (λ (x : Descriptor). has_room old p.disk x) e
  room_copy k (inr e) row lp p one copy = let at = two.places row lp p one copy in ap (λ (x : Descriptor). has_room old p.disk x) e ∙ sym (two.room old p.disk at.0 at.1 at.2 at.3)

  abbrev now_members : Descriptor → Disks
  now_members k = members_in new all_disks id k

  abbrev was_members : Disks
  was_members = members_in old all_disks id g

  member_copy : (k : Descriptor) → IsEither k → (row : LvRow) (lp : ℕ) (p : Pp) → IsOneOf g.lvs row → IsOneOf (copies_of row lp) p → now_members k p.disk ≡ was_members p.disk
  member_copy k either row lp p one copy =
      let shows = shows_copy row lp p one copy in
      let room = room_copy k either row lp p one copy in
      λ t. true && shows t && room t

  fresh_same : (k : Descriptor) → IsEither k → (s : Option (Stamped Status)) (row : LvRow) (lp : ℕ) → IsOneOf g.lvs row → fresh_on (now_members k) s row lp ≡ fresh_on was_members s row lp
  fresh_same k either s row lp one = filter_same (λ (p : Pp). now_members k p.disk && not (is_stale_by s p)) (λ (p : Pp). was_members p.disk && not (is_stale_by s p)) (copies_of row lp)
      (λ p copy. ap (λ (t : Bool). t && not (is_stale_by s p)) (member_copy k either row lp p one copy))

  lvs_of : (k : Descriptor) → IsEither k → k.lvs ≡ g.lvs
  lvs_of k (inl e) = ap (λ (x : Descriptor). x.lvs) e
  lvs_of k (inr e) = ap (λ (x : Descriptor). x.lvs) e ∙ sym two.volumes

  mib_of : (k : Descriptor) → IsEither k → k.mib ≡ g.mib
  mib_of k (inl e) = ap (λ (x : Descriptor). x.mib) e
  mib_of k (inr e) = ap (λ (x : Descriptor). x.mib) e ∙ sym two.size

  module _ (facts : List Fact) (was is : Stamped Status) (after : ReadsTwo new g h was is) (served : Served old facts g was is) where
    -- which status is read, by the one or the other
    status_read : (b : Disks) (k : Descriptor) → IsEither k → CanRead k (members_in new b id k) → (status_by new b id k ≡ Some was) ⊎ (status_by new b id k ≡ Some is)
    status_read b k (inl e) can = subst (λ (x : Descriptor). (status_by new b id x ≡ Some was) ⊎ (status_by new b id x ≡ Some is)) (sym e) (after.by_one b (subst (λ (x : Descriptor). CanRead x (members_in new b id x)) e can))
    status_read b k (inr e) can = subst (λ (x : Descriptor). (status_by new b id x ≡ Some was) ⊎ (status_by new b id x ≡ Some is)) (sym e) (after.by_other b (subst (λ (x : Descriptor). CanRead x (members_in new b id x)) e can))

    by_status : (P : Option (Stamped Status) → Type 0) → P (Some was) → P (Some is) → (b : Disks) (k : Descriptor) → IsEither k → CanRead k (members_in new b id k) → P (status_by new b id k)
    by_status P first second b k either can = ⊎_elim
        (λ (e : status_by new b id k ≡ Some was). subst P (sym e) first)
        (λ (e : status_by new b id k ≡ Some is). subst P (sym e) second)
        (status_read b k either can)

    blocks_by : (s : Stamped Status) → DoesFor old facts g s → (k : Descriptor) → IsEither k → BlocksKept new facts k (now_members k) (Some s)
    blocks_by s does k either row lp b one inside =
        let in_g : IsOneOf g.lvs row = subst (λ (rows : List LvRow). IsOneOf rows row) (lvs_of k either) one in
        let at : Known = known (facts ++ Cut ∷ []) (Lv row.number) b in
        let stood : IsBlockKept old g.mib (Some s) row (fresh_on was_members (Some s) row lp) at b = does.blocks row lp b in_g (subst (λ (m : ℕ). IsBlockOf m row lp b) (mib_of k either) inside) in
        subst (λ (m : ℕ). IsBlockKept new m (Some s) row (fresh_on (now_members k) (Some s) row lp) at b) (sym (mib_of k either))
        (subst (λ (ps : List Pp). IsBlockKept new g.mib (Some s) row ps at b) (sym (fresh_same k either (Some s) row lp in_g))
        (same_block old shown old.status g.mib (Some s) row (fresh_on was_members (Some s) row lp) at b stood))

    some_by : (s : Stamped Status) → DoesFor old facts g s → (k : Descriptor) → IsEither k → (row : LvRow) (lp : ℕ) → IsOneOf k.lvs row → lp < row.lps → IsSome (fresh_on (now_members k) (Some s) row lp)
    some_by s does k either row lp one inside =
        let in_g : IsOneOf g.lvs row = subst (λ (rows : List LvRow). IsOneOf rows row) (lvs_of k either) one in
        subst (λ (ps : List Pp). IsSome ps) (sym (fresh_same k either (Some s) row lp in_g)) (does.some row lp in_g inside)

    has_one : (rows : List LvRow) (s : Stamped Status) → HasStatus rows (Some s)
    has_one [] s = tt
    has_one (row ∷ rows) s = refl

    volumes_of : (k : Descriptor) → IsEither k → (lv : ℕ) → StandsAs k.mib (volumes_in facts lv).standing (volumes_in facts lv).shape (volume_of k lv)
    volumes_of k (inl e) lv = subst (λ (x : Descriptor). StandsAs x.mib (volumes_in facts lv).standing (volumes_in facts lv).shape (volume_of x lv)) (sym e) (served.volumes lv)
    volumes_of k (inr e) lv = subst (λ (x : Descriptor). StandsAs x.mib (volumes_in facts lv).standing (volumes_in facts lv).shape (volume_of x lv)) (sym e)
        (subst (λ (m : ℕ). StandsAs m (volumes_in facts lv).standing (volumes_in facts lv).shape (volume_of h lv)) two.size
        (subst (λ (o : Option LvRow). StandsAs g.mib (volumes_in facts lv).standing (volumes_in facts lv).shape o)
        (ap (λ (rows : List LvRow). Rattle.std.specs.Prelude.find (λ (row : LvRow). row.number == lv) rows) two.volumes) (served.volumes lv)))

    -- ---- all of it

    module _ (kept : Kept old facts) (reads : (d : ℕ) → shown d ≡ Some next → CanRead h (members_in new all_disks id h)) where
      either_of : (k : Descriptor) → IsFound new id k → IsEither k
      either_of k is_found = finds_two is_found.0 k is_found.1

      -- P holds of the status that is read of any group, where it does of either of this one
      any_read : (P : Disks → Option (Stamped Status) → Type 0) (b : Disks) (i : ℕ) (x k : Descriptor) → ReadsGroup new b i x → IsFound new i k
          → ((i ≡ id → ⊥) → P (members_in old all_disks i k) (status_by old b i x)) → (IsEither x → IsEither k → CanRead x (members_in new b id x) → P (members_in new all_disks id k) (status_by new b id x))
          → P (members_in new all_disks i k) (status_by new b i x)
      any_read P b i x k r is_found other its = ⊎_elim
          (λ (e : i ≡ id). subst (λ (n : ℕ). P (members_in new all_disks n k) (status_by new b n x)) (sym e)
          (let found_x : IsFound new id x = subst (λ (n : ℕ). IsFound new n x) e r.found in
          let found_k : IsFound new id k = subst (λ (n : ℕ). IsFound new n k) e is_found in
          its (either_of x found_x) (either_of k found_k) (subst (λ (n : ℕ). CanRead x (members_in new b n x)) e r.enough)))
          (λ (apart : i ≡ id → ⊥). subst (λ (v : Disks). P v (status_by new b i x)) (sym (other_members all_disks i k apart))
          (subst (λ (s : Option (Stamped Status)). P (members_in old all_disks i k) s) (sym (other_status b i x apart)) (other apart)))
          (cases_eq i id)

      status_there : (b : Disks) (i : ℕ) (x k : Descriptor) → ReadsGroup new b i x → IsFound new i k → HasStatus k.lvs (status_by new b i x)
      status_there b i x k r is_found = any_read (λ v s. HasStatus k.lvs s) b i x k r is_found
          (λ apart. kept.lasting.status b i x k (other_reads b i x apart r) (other_found i k apart is_found))
          (λ ex ek can. by_status (λ s. HasStatus k.lvs s) (has_one k.lvs was) (has_one k.lvs is) b x ex can)

      across : (b : Disks) (i : ℕ) (x k : Descriptor) → ReadsGroup new b i x → IsFound new i k → BlocksKept new facts k (members_in new all_disks i k) (status_by new b i x)
      across b i x k r is_found = any_read (λ v s. BlocksKept new facts k v s) b i x k r is_found
          (λ apart row lp n one inside. same_block old shown old.status k.mib (status_by old b i x) row (fresh_on (members_in old all_disks i k) (status_by old b i x) row lp) (known (facts ++ Cut ∷ []) (Lv row.number) n) n
          (kept.lasting.across b i x k (other_reads b i x apart r) (other_found i k apart is_found) row lp n one inside))
          (λ ex ek can. by_status (λ s. BlocksKept new facts k (now_members k) s) (blocks_by was served.by_was k ek) (blocks_by is served.by_is k ek) b x ex can)

      some : (b : Disks) (i : ℕ) (x k : Descriptor) → ReadsGroup new b i x → IsFound new i k → (row : LvRow) (lp : ℕ) → IsOneOf k.lvs row → lp < row.lps
          → IsSome (fresh_on (members_in new all_disks i k) (status_by new b i x) row lp)
      some b i x k r is_found row lp one inside = any_read (λ v s. IsSome (fresh_on v s row lp)) b i x k r is_found
          (λ apart. kept.lasting.some b i x k (other_reads b i x apart r) (other_found i k apart is_found) row lp one inside)
          (λ ex ek can. by_status (λ s. IsSome (fresh_on (now_members k) s row lp)) (some_by was served.by_was k ek row lp one inside) (some_by is served.by_is k ek row lp one inside) b x ex can)

      shared : (x y : Descriptor) → IsEither x → IsEither y → (a b : Disks) → CanRead x a → CanRead y b → (d : ℕ) × IsTrue (a d) × IsTrue (b d)
      shared x y (inl p) (inl q) a b can also =
          let m = read_meets_read g a b two.some_g.some (subst (λ (z : Descriptor). CanRead z a) p can) (subst (λ (z : Descriptor). CanRead z b) q also) in (m.0, m.2, m.3)
      shared x y (inr p) (inr q) a b can also =
          let m = read_meets_read h a b two.some_h.some (subst (λ (z : Descriptor). CanRead z a) p can) (subst (λ (z : Descriptor). CanRead z b) q also) in (m.0, m.2, m.3)
      shared x y (inl p) (inr q) a b can also =
          let m = two.near.meet a b (subst (λ (z : Descriptor). CanRead z a) p can) (subst (λ (z : Descriptor). CanRead z b) q also) in (m.0, m.3, m.4)
      shared x y (inr p) (inl q) a b can also =
          let m = (lasting_meets g h two.near).meet a b (subst (λ (z : Descriptor). CanRead z a) p can) (subst (λ (z : Descriptor). CanRead z b) q also) in (m.0, m.3, m.4)

      common : (a b : Disks) (i : ℕ) (x y : Descriptor) → ReadsGroup new a i x → ReadsGroup new b i y → (d : ℕ) × IsTrue (members_in new a i x d) × IsTrue (members_in new b i y d)
      common a b i x y r s = ⊎_elim
          (λ (e : i ≡ id). shared x y (either_of x (subst (λ (n : ℕ). IsFound new n x) e r.found)) (either_of y (subst (λ (n : ℕ). IsFound new n y) e s.found)) (members_in new a i x) (members_in new b i y) r.enough s.enough)
          (λ (apart : i ≡ id → ⊥).
          let one = kept.lasting.common a b i x y (other_reads a i x apart r) (other_reads b i y apart s) in
          (one.0, subst (λ (v : Disks). IsTrue (v one.0)) (sym (other_members a i x apart)) one.1, subst (λ (v : Disks). IsTrue (v one.0)) (sym (other_members b i y apart)) one.2))
          (cases_eq i id)

      size : (i : ℕ) (x y : Descriptor) → IsFound new i x → IsFound new i y → x.mib ≡ y.mib
      size i x y p q = ⊎_elim
          (λ (e : i ≡ id). mib_of x (either_of x (subst (λ (n : ℕ). IsFound new n x) e p)) ∙ sym (mib_of y (either_of y (subst (λ (n : ℕ). IsFound new n y) e q))))
          (λ (apart : i ≡ id → ⊥). kept.lasting.size i x y (other_found i x apart p) (other_found i y apart q))
          (cases_eq i id)

      pps_of : (x y : Descriptor) → IsEither x → IsEither y → (d : ℕ) (p q : PvRow) → member_of x d ≡ Some p → member_of y d ≡ Some q → p.pps ≡ q.pps
      pps_of x y (inl a) (inl b) d p q one other = ap (λ (r : PvRow). r.pps) (same_Some p q (sym (subst (λ (z : Descriptor). member_of z d ≡ Some p) a one) ∙ subst (λ (z : Descriptor). member_of z d ≡ Some q) b other))
      pps_of x y (inr a) (inr b) d p q one other = ap (λ (r : PvRow). r.pps) (same_Some p q (sym (subst (λ (z : Descriptor). member_of z d ≡ Some p) a one) ∙ subst (λ (z : Descriptor). member_of z d ≡ Some q) b other))
      pps_of x y (inl a) (inr b) d p q one other = two.partitions d p q (subst (λ (z : Descriptor). member_of z d ≡ Some p) a one) (subst (λ (z : Descriptor). member_of z d ≡ Some q) b other)
      pps_of x y (inr a) (inl b) d p q one other = sym (two.partitions d q p (subst (λ (z : Descriptor). member_of z d ≡ Some q) b other) (subst (λ (z : Descriptor). member_of z d ≡ Some p) a one))

      partitions : (i : ℕ) (x y : Descriptor) → IsFound new i x → IsFound new i y → (d : ℕ) (p q : PvRow) → member_of x d ≡ Some p → member_of y d ≡ Some q → p.pps ≡ q.pps
      partitions i x y fx fy d p q one other = ⊎_elim
          (λ (e : i ≡ id). pps_of x y (either_of x (subst (λ (n : ℕ). IsFound new n x) e fx)) (either_of y (subst (λ (n : ℕ). IsFound new n y) e fy)) d p q one other)
          (λ (apart : i ≡ id → ⊥). kept.lasting.partitions i x y (other_found i x apart fx) (other_found i y apart fy) d p q one other)
          (cases_eq i id)

      one_of : (d e : ℕ) (r s : Stamped Descriptor) → shown d ≡ Some r → shown e ≡ Some s → r.value.id ≡ s.value.id → r.stamp ≡ s.stamp → r ≡ s
      one_of d e r s shows also ids stamps = ⊎_elim
          (λ (old_r : shown d ≡ old.descriptor d). ⊎_elim
          (λ (old_s : shown e ≡ old.descriptor e). kept.lasting.descriptors d e r s (sym old_r ∙ shows) (sym old_s ∙ also) ids stamps)
          (λ (put : IsTrue (targets e) × (shown e ≡ Some next)).
          let same : s ≡ next = same_Some s next (sym also ∙ put.1) in
          is_next d r (sym old_r ∙ shows) (ids ∙ ap (λ (x : Stamped Descriptor). x.value.id) same) (stamps ∙ ap (λ (x : Stamped Descriptor). x.stamp) same) ∙ sym same)
          (own e))
          (λ (put : IsTrue (targets d) × (shown d ≡ Some next)).
          let same : r ≡ next = same_Some r next (sym shows ∙ put.1) in ⊎_elim
          (λ (old_s : shown e ≡ old.descriptor e). same ∙ sym (is_next e s (sym old_s ∙ also) (sym ids ∙ ap (λ (x : Stamped Descriptor). x.value.id) same) (sym stamps ∙ ap (λ (x : Stamped Descriptor). x.stamp) same)))
          (λ (also_put : IsTrue (targets e) × (shown e ≡ Some next)). same ∙ sym (same_Some s next (sym also ∙ also_put.1)))
          (own e))
          (own d)
        where
          is_next : (d : ℕ) (r : Stamped Descriptor) → old.descriptor d ≡ Some r → r.value.id ≡ next.value.id → r.stamp ≡ next.stamp → r ≡ next
          is_next d r stood ids stamps = ⊎_elim
              (λ (low : stamp_lt r.stamp next.stamp ≡ true). absurd (not-itself next.stamp (ap (λ (x : Stamp). stamp_lt x next.stamp) (sym stamps) ∙ low)))
              (λ (e : r ≡ next). e)
              (later d r stood (ids ∙ next_id))

      still_none : (d : ℕ) → shown d ≡ None → old.descriptor d ≡ None
      still_none d none = ⊎_elim (λ (same : shown d ≡ old.descriptor d). sym same ∙ none) (λ (put : IsTrue (targets d) × (shown d ≡ Some next)). absurd (let e : Some next ≡ None = sym put.1 ∙ none in cc (e))) (own d)

      finding : (b : Disks) (i : ℕ) (k : Descriptor) → Finds new b i k → (P : Disks → Option (Stamped Status) → Type 0) → P (members_in new b i k) (status_by new b i k) → P (is_voter new b i) (status_among new b i)
      finding b i k f P p =
          let r : ReadsBy new b i k = finding_reads new b i k f in
          subst (λ (s : Option (Stamped Status)). P (is_voter new b i) s) (sym r.status) (subst (λ (v : Disks). P v (status_by new b i k)) (sym r.voters) p)

      copies : (b : Disks) (i : ℕ) (k : Descriptor) → Finds new b i k → BlocksKept new facts k (is_voter new b i) (status_among new b i)
      copies b i k f = finding b i k f (λ v s. BlocksKept new facts k v s)
          (fewer_blocks new (members_in new b i k) (members_in new all_disks i k) (λ d in_set. without_first (b d) (passes (is_of i) (shown d)) (has_room new d k) in_set) facts k (status_by new b i k)
          (across b i k k (finding_reads new b i k f).reads (b, f)))

      volumes_agree : (b : Disks) (i : ℕ) (k : Descriptor) → Finds new b i k → (lv : ℕ) → StandsAs k.mib (volumes_in facts lv).standing (volumes_in facts lv).shape (volume_of k lv)
      volumes_agree b i k f lv = ⊎_elim
          (λ (e : i ≡ id). volumes_of k (either_of k (subst (λ (n : ℕ). IsFound new n k) e (b, f))) lv)
          (λ (apart : i ≡ id → ⊥). kept.agrees.volumes b i k (other_finds b i k apart f) lv)
          (cases_eq i id)

      -- ---- all disks find a group still

      other_after : (i : ℕ) (k : Descriptor) → (i ≡ id → ⊥) → Finds old all_disks i k → Finds new all_disks i k
      unfolding descriptor_among
      other_after i k apart f =
          let r : ReadsBy old all_disks i k = finding_reads old all_disks i k f in
          let enough : CanRead f.newest.value (members_in new all_disks i f.newest.value) =
          subst (λ (x : Descriptor). CanRead x (members_in new all_disks i x)) (sym f.is) (subst (λ (v : Disks). CanRead k v) (sym (other_members all_disks i k apart)) r.reads.enough) in
          subst (λ (x : Descriptor). Finds new all_disks i x) f.is (finds_from new all_disks i f.newest (newest f.found) enough)
        where
          newest : descriptor_among old all_disks i ≡ Some f.newest → descriptor_among new all_disks i ≡ Some f.newest
          newest e = (λ t. newest_below (λ d. other_offer i d apart t) old.disks) ∙ e

      -- whichever disk shows the group, all have a newest
      newest_of_all : (d : ℕ) (r : Stamped Descriptor) → shown d ≡ Some r → r.value.id ≡ id → (m : Stamped Descriptor) × (descriptor_among new all_disks id ≡ Some m)
      unfolding descriptor_among
      newest_of_all d r shows its =
          let last = is_last Descriptor (offered (is_of id) shown all_disks) old.disks d r (within_new d r shows) (offers (is_of id) shown all_disks d r refl shows (eq-eqb r.value.id id its)) in
          (last.0, last.1)

      shown_first : (disks : Disks) (m : Stamped Descriptor) → descriptor_among new disks id ≡ Some m → (d : ℕ) × (shown d ≡ Some m)
      unfolding descriptor_among
      shown_first disks m e =
          let one = is_one Descriptor (offered (is_of id) shown disks) old.disks m e in (one.0, (is_offered (is_of id) shown disks one.0 m one.2).0)

      was_shown : (disks : Disks) (m : Stamped Descriptor) → descriptor_among old disks id ≡ Some m → (d : ℕ) × (old.descriptor d ≡ Some m) × (m.value.id ≡ id)
      unfolding descriptor_among
      was_shown disks m e =
          let one = is_one Descriptor (offered (is_of id) old.descriptor disks) old.disks m e in
          let from = is_offered (is_of id) old.descriptor disks one.0 m one.2 in
          (one.0, from.0, eqb-true m.value.id id from.1)

      its_after : (k : Descriptor) → Finds old all_disks id k → (x : Descriptor) × Finds new all_disks id x
      its_after k f =
          let shows = was_shown all_disks f.newest f.found in
          let all = ⊎_elim
          (λ (same : shown shows.0 ≡ old.descriptor shows.0). newest_of_all shows.0 f.newest (same ∙ shows.1) shows.2)
          (λ (put : IsTrue (targets shows.0) × (shown shows.0 ≡ Some next)). newest_of_all shows.0 next put.1 next_id)
          (own shows.0) in
          let m : Stamped Descriptor = all.0 in
          ⊎_elim
          (λ (e : m ≡ next).
          let at = shown_first all_disks m all.1 in
          let can : CanRead h (members_in new all_disks id h) = reads at.0 (at.1 ∙ ap (λ (x : Stamped Descriptor). Some x) e) in
          (m.value, finds_from new all_disks id m all.1 (subst (λ (x : Descriptor). CanRead x (members_in new all_disks id x)) (sym (ap (λ (x : Stamped Descriptor). x.value) e ∙ value)) can)))
          (λ (b : Before all_disks id m).
          let same : f.newest ≡ m = same_Some f.newest m (sym f.found ∙ b.among) in
          let k_is : k ≡ m.value = sym f.is ∙ ap (λ (x : Stamped Descriptor). x.value) same in
          let r : ReadsBy old all_disks id k = finding_reads old all_disks id k f in
          let can : CanRead m.value (members_in new all_disks id m.value) = subst (λ (v : Disks). CanRead m.value v) (sym (members_before all_disks id m.value b.same)) (subst (λ (x : Descriptor). CanRead x (members_in old all_disks id x)) k_is r.reads.enough) in
          (m.value, finds_from new all_disks id m all.1 can))
          (next_or_before all_disks m all.1)

      after_all : (i : ℕ) (k : Descriptor) → Finds old all_disks i k → (x : Descriptor) × Finds new all_disks i x
      after_all i k f = ⊎_elim
          (λ (e : i ≡ id). subst (λ (n : ℕ). (x : Descriptor) × Finds new all_disks n x) (sym e) (its_after k (subst (λ (n : ℕ). Finds old all_disks n k) e f)))
          (λ (apart : i ≡ id → ⊥). (k, other_after i k apart f))
          (cases_eq i id)

      available : (lv : ℕ) → IsSettledIn facts lv → IsAvailable new facts
      available lv settled =
          let a : IsAvailable old facts = kept.agrees.available lv settled in
          let f = after_all a.id a.group a.found in
          record {
            id = a.id;
            group = f.0;
            found = f.1;
            copies = λ l lp row is_settled is_row inside. finding all_disks a.id f.0 f.1 (λ v s. IsSome (fresh_on v s row lp))
                (some all_disks a.id f.0 f.0 (finding_reads new all_disks a.id f.0 f.1).reads (all_disks, f.1) row lp (volume_is_row f.0 l row is_row) inside);
          }

      pub turned_keeps : Kept new facts
      turned_keeps = record {
        agrees = record {
          volumes = volumes_agree;
          status = λ b i k f. finding b i k f (λ v s. HasStatus k.lvs s) (status_there b i k k (finding_reads new b i k f).reads (b, f));
          copies = copies;
          raw = λ d b there none low high. kept.agrees.raw d b there (still_none d none) low high;
          available = available;
        };
        lasting = record {
          common = common;
          status = status_there;
          across = across;
          some = some;
          size = size;
          partitions = partitions;
          descriptors = one_of;
          statuses = kept.lasting.statuses;
        };
      }

pub turn_keeps : TransitionKeeps
turn_keeps old new facts g h targets next was is within within_new may kept =
    let shown : ℕ → Option (Stamped Descriptor) = new.descriptor in
    let now : Contents = record old { descriptor = shown } in
    let same : new ≡ now = may.change.rest in
    let in_new : (d : ℕ) (r : Stamped Descriptor) → shown d ≡ Some r → d < old.disks = λ d r e. subst (λ (n : ℕ). d < n) (ap (λ (c : Contents). c.disks) same) (within_new.descriptors d r e) in (
      subst (λ (c : Contents). Kept c facts) (sym same)
          (turned_keeps old shown g h targets next may.two may.value may.change.own may.showing may.later may.finds within in_new facts was is
          (subst (λ (c : Contents). ReadsTwo c g h was is) same may.after) may.served kept
          (λ d e. subst (λ (c : Contents). CanRead h (members_in c all_disks g.id h)) same (may.reads d e))),
      subst (λ (c : Contents). FindsTwo c g h) (sym same) (finds_two old shown g h targets next may.two may.value may.change.own may.showing may.later may.finds within in_new),
      λ other k apart is_found. other_found old shown g h targets next may.two may.value may.change.own may.showing may.later may.finds within in_new other k apart
          (subst (λ (c : Contents). IsFound c other k) same is_found),
    )

-- ---- once it is written

pub turn_is_done : TurnIsDone
unfolding descriptor_among
turn_is_done c g h set next within ids value finds have latest meets_g meets_h disks k f = ⊎_elim
    (λ (e : k ≡ g). by_meeting (meets_g (members_in c disks g.id k) (subst (λ (x : Descriptor). CanRead x (members_in c disks g.id k)) e reads.reads.enough)))
    (λ (e : k ≡ h). e)
    (finds disks k f)
  where
    reads : ReadsBy c disks g.id k
    reads = finding_reads c disks g.id k f

    newest : (d : ℕ) → IsTrue (disks d) → c.descriptor d ≡ Some next → f.newest ≡ next
    newest d in_set is =
        let own : next.value.id ≡ g.id = ap (λ (x : Descriptor). x.id) value ∙ sym ids in
        ⊎_elim
        (λ (e : newest_below (offered (is_of g.id) c.descriptor disks) c.disks ≡ Some next). same_Some f.newest next (sym f.found ∙ e))
        (λ (e : newest_below (offered (is_of g.id) c.descriptor disks) c.disks ≡ Some next). same_Some f.newest next (sym f.found ∙ e))
        (newest_looked Descriptor (is_of g.id) c.descriptor disks c.disks next next (eq-eqb next.value.id g.id own) (eq-eqb next.value.id g.id own) (inl refl)
        (λ e r looks shows its. ⊎_elim (λ low. inl low) (λ same. inr (inl same)) (latest e r shows (eqb-true r.value.id g.id its)))
        d in_set (inl is) within.descriptors)

    by_meeting : (d : ℕ) × IsTrue (members_in c disks g.id k d) × IsTrue (set d) → k ≡ h
    by_meeting m =
        let in_disks : IsTrue (disks m.0) = (and_parts (disks m.0) (passes (is_of g.id) (c.descriptor m.0)) (and_parts (disks m.0 && passes (is_of g.id) (c.descriptor m.0)) (has_room c m.0 k) m.1).0).0 in
        sym f.is ∙ ap (λ (x : Stamped Descriptor). x.value) (newest m.0 in_disks (have m.0 m.2)) ∙ value

pub reads_are_two : ReadsAreTwo
reads_are_two c g h set was is within stand meets_g meets_h = record {
  by_one = λ b can. let m = meets_g (members_in c b g.id g) can in look b g (λ d room. inl room) m.0 m.1 m.2;
  by_other = λ b can. let m = meets_h (members_in c b g.id h) can in look b h (λ d room. inr room) m.0 m.1 m.2;
}
  where
    look : (b : Disks) (k : Descriptor) → ((d : ℕ) → IsTrue (has_room c d k) → IsTrue (has_room c d g) ⊎ IsTrue (has_room c d h)) → (d : ℕ) → IsTrue (members_in c b g.id k d) → IsTrue (set d)
        → (status_by c b g.id k ≡ Some was) ⊎ (status_by c b g.id k ≡ Some is)
    look b k room d member in_set = newest_looked Status (is_status_of g.id) c.status (members_in c b g.id k) c.disks was is
        (eq-eqb was.value.id g.id stand.own) (eq-eqb is.value.id g.id stand.next_own) stand.later
        (λ e r looks shows its. stand.newest e r (room e (and_parts (b e && passes (is_of g.id) (c.descriptor e)) (has_room c e k) looks).1) shows (eqb-true r.value.id g.id its))
        d member (stand.have d in_set) within.statuses
