-- Descriptors that get a new stamp.
use Rattle.std.proofs.Common.{◌≡◌, ◌⊎◌, inl, inr, ⊎_elim, ℕ, ◌<◌, Bool, true, false, ◌&&◌, List, [], ◌∷◌, ◌++◌, Option, Some, None, refl, sym, ap, subst, ◌∙◌, arith}
use Rattle.std.specs.Prelude.{IsTrue, ◌==◌, not, if◌then◌else◌, filter}
use Rattle.std.specs.List.{AllByRecursion}
use Rattle.std.proofs.lemmas.Option.{same_Some}
use Rattle.std.proofs.lemmas.Bool.{eqb-true, and_parts, and_from}
use Rattle.std.proofs.lemmas.Bool.Decides.{nat_tests}
use Rattle.lvm_disk.specs.passed.Num.{Stamp, Pp, Mode, LvRow, Descriptor, Status, Disks, track_group_of, copies_of, all_disks, votes_in, CanRead, Stamped, stamp_lt, newest_below}
use Rattle.lvm_disk.specs.passed.NumDescriptorMode.{Active, Passive, Off}
use Rattle.lvm_disk.proofs.passed.Num.{more_have_more, more_is_enough, is_one, is_last, without_first}
use Rattle.lvm_vol.specs.declared.entry.Vol.TheVariants.{Lv}
use Rattle.lvm_vol.specs.Facts.{Fact, Cut}
use Rattle.lvm_vol.specs.May.{Known, known, IsValue}
use Rattle.lvm_kept.specs.Contents.{Contents}
use Rattle.lvm_kept.specs.Group.{IsOneOf, if_passes, passes, is_of, is_status_of, has_room, descriptor_among, is_voter, status_among, Finds, IsFound, members_in, status_by, ReadsGroup, ReadsBy, is_stale_by, fresh_on, block_at, is_named, IsSome, HoldOne}
use Rattle.lvm_kept.specs.Kept.{HasStatus, MayDiffer, BlocksKept, IsSettledIn, IsAvailable, Kept}
use Rattle.lvm_kept.specs.Committed.{IsWithinDisks}
use Rattle.lvm_kept.specs.Changes.{RestampingKeeps}
use Rattle.lvm_kept.proofs.CommittedLemmas.Finding.{offered, is_offered, offers, finding_reads, finds_from}
use Rattle.lvm_kept.proofs.ChangesLemmas.Entries.{volume_is_row}
use Rattle.lvm_kept.proofs.KeptLemmas.{same_blocks}

-- ---- fewer disks

-- what holds of all that pass one test holds of all that pass another one which is narrower on them
pub narrower_on : {X : Type 0} (P : X → Type 0) (p q : X → Bool) (xs : List X) → ((x : X) → IsOneOf xs x → q x ≡ true → p x ≡ true) → AllByRecursion P (filter p xs) → AllByRecursion P (filter q xs)
narrower_on P p q [] more all = tt
narrower_on P p q (x ∷ xs) more all = by_tests (p x) (q x) (more x (inl refl)) (narrower_on P p q xs (λ y one. more y (inr one))) all
  where
    by_tests : (s t : Bool) → (t ≡ true → s ≡ true) → (AllByRecursion P (filter p xs) → AllByRecursion P (filter q xs))
        → AllByRecursion P (if s then x ∷ filter p xs else filter p xs) → AllByRecursion P (if t then x ∷ filter q xs else filter q xs)
    by_tests true true m rest all = (all.0, rest all.1)
    by_tests true false m rest all = rest all.1
    by_tests false true m rest all = absurd (let e = m refl in cc)
    by_tests false false m rest all = rest all

-- or of which it is narrower everywhere
pub narrower : {X : Type 0} (P : X → Type 0) (p q : X → Bool) → ((x : X) → q x ≡ true → p x ≡ true) → (xs : List X) → AllByRecursion P (filter p xs) → AllByRecursion P (filter q xs)
narrower P p q more xs = narrower_on P p q xs (λ x one. more x)

module _ (c : Contents) (small big : Disks) (more : (d : ℕ) → IsTrue (small d) → IsTrue (big d)) where
  fewer_copies : (P : Pp → Type 0) (status : Option (Stamped Status)) (row : LvRow) (lp : ℕ) → AllByRecursion P (fresh_on big status row lp) → AllByRecursion P (fresh_on small status row lp)
  fewer_copies P status row lp all = narrower P (λ (p : Pp). big p.disk && not (is_stale_by status p)) (λ (p : Pp). small p.disk && not (is_stale_by status p))
      (λ p e. let parts = and_parts (small p.disk) (not (is_stale_by status p)) e in and_from (big p.disk) (not (is_stale_by status p)) (more p.disk parts.0) parts.1)
      (copies_of row lp) all

  fewer_differ : (status : Option (Stamped Status)) (row : LvRow) (lp : ℕ) (mode : Mode) (lv : ℕ) (k : Known) (b : ℕ)
      → MayDiffer c status lv mode (fresh_on big status row lp) k b → MayDiffer c status lv mode (fresh_on small status row lp) k b
  fewer_differ status row lp Active lv k b m = fewer_copies (λ (p : Pp). IsTrue (is_named c p.disk lv (track_group_of b))) status row lp m
  fewer_differ status row lp Passive lv k b m = m
  fewer_differ status row lp Off lv k b m = m

  pub fewer_blocks : (facts : List Fact) (group : Descriptor) (status : Option (Stamped Status)) → BlocksKept c facts group big status → BlocksKept c facts group small status
  fewer_blocks facts group status blocks row lp b is inside =
      let kept = blocks row lp b is inside in
      let k : Known = known (facts ++ Cut ∷ []) (Lv row.number) b in
      record {
        allowed = fewer_copies (λ (p : Pp). IsValue k (block_at c group.mib p b)) status row lp kept.allowed;
        equal = ⊎_elim
            (λ (one : HoldOne c group.mib (fresh_on big status row lp) b). inl (one.0, fewer_copies (λ (p : Pp). block_at c group.mib p b ≡ one.0) status row lp one.1))
            (λ (m : MayDiffer c status row.number row.mode (fresh_on big status row lp) k b). inr (fewer_differ status row lp row.mode row.number k b m))
            kept.equal;
      }

-- ---- the change

not-itself : (a : Stamp) → stamp_lt a a ≡ true → ⊥
not-itself a e = grind (arith, nat_tests)

module _ (old : Contents) (descriptor : ℕ → Option (Stamped Descriptor)) (next : Stamped Descriptor)
    (own : (d : ℕ) → (descriptor d ≡ old.descriptor d) ⊎ ((descriptor d ≡ Some next) × ((r : Stamped Descriptor) × (old.descriptor d ≡ Some r) × (r.value.id ≡ next.value.id))))
    (later : (d : ℕ) (r : Stamped Descriptor) → old.descriptor d ≡ Some r → r.value.id ≡ next.value.id → stamp_lt r.stamp next.stamp ≡ true)
    (found : IsFound old next.value.id next.value)
    (within : IsWithinDisks old) where
  abbrev new : Contents
  new = record old { descriptor = descriptor }

  -- disks show descriptors of the groups that they showed
  group_same : (id d : ℕ) → passes (is_of id) (descriptor d) ≡ passes (is_of id) (old.descriptor d)
  group_same id d = ⊎_elim
      (λ same. ap (passes (is_of id)) same)
      (λ is. ap (passes (is_of id)) is.0 ∙ ap (λ (n : ℕ). n == id) (sym is.1.2) ∙ sym (ap (passes (is_of id)) is.1.1))
      (own d)

  pub members_same : (disks : Disks) (id : ℕ) (g : Descriptor) → members_in new disks id g ≡ members_in old disks id g
  members_same disks id g = λ t d. disks d && group_same id d t && has_room old d g

  pub status_same : (disks : Disks) (id : ℕ) (g : Descriptor) → status_by new disks id g ≡ status_by old disks id g
  status_same disks id g =
      let same : members_in new disks id g ≡ members_in old disks id g = members_same disks id g in
      λ t. newest_below (λ d. if same t d then if_passes (is_status_of id) (old.status d) else None) old.disks

  -- where the newest of a set is one that stood before, what each of its disks offers is as before
  module _ (disks : Disks) (id : ℕ) (m : Stamped Descriptor) (newest : newest_below (offered (is_of id) descriptor disks) old.disks ≡ Some m) (d : ℕ) (stood : old.descriptor d ≡ Some m) (its : m.value.id ≡ id) where
    no_next : (e : ℕ) → IsTrue (disks e) → descriptor e ≡ Some next → e < old.disks → next.value.id ≡ id → ⊥
    no_next e in_set is lt same =
        let last = is_last Descriptor (offered (is_of id) descriptor disks) old.disks e next lt (offers (is_of id) descriptor disks e next in_set is (Rattle.std.proofs.Common.eq-eqb next.value.id id same)) in
        let it : last.0 ≡ m = same_Some last.0 m (sym last.1 ∙ newest) in
        let low : stamp_lt m.stamp next.stamp ≡ true = later d m stood (its ∙ sym same) in
        never (stamp_lt m.stamp next.stamp) low (ap (λ (x : Stamped Descriptor). stamp_lt x.stamp next.stamp) (sym it) ∙ last.2)
      where
        never : (b : Bool) → b ≡ true → b ≡ false → ⊥
        never true p q = absurd cc
        never false p q = absurd cc

    offer_same : (e : ℕ) → offered (is_of id) descriptor disks e ≡ offered (is_of id) old.descriptor disks e
    offer_same e = ⊎_elim
        (λ same. ap (λ (o : Option (Stamped Descriptor)). if disks e then if_passes (is_of id) o else None) same)
        (λ is. by_set (disks e) refl (descriptor e) (old.descriptor e) is.0 is.1.0 is.1.1 is.1.2)
        (own e)
      where
        by_id : (t : Bool) → (next.value.id == id) ≡ t → IsTrue (disks e) → (o p : Option (Stamped Descriptor)) → o ≡ Some next → (r : Stamped Descriptor) → p ≡ Some r → r.value.id ≡ next.value.id → descriptor e ≡ Some next → e < old.disks
            → if_passes (is_of id) o ≡ if_passes (is_of id) p
        by_id true is in_set o p o_is r p_is ids here lt = absurd (no_next e in_set here lt (eqb-true next.value.id id is))
        by_id false is in_set o p o_is r p_is ids here lt =
            ap (if_passes (is_of id)) o_is ∙ ap (λ (t : Bool). if t then Some next else None) is
            ∙ sym (ap (if_passes (is_of id)) p_is ∙ ap (λ (t : Bool). if t then Some r else None) (ap (λ (n : ℕ). n == id) ids ∙ is))

        by_set : (t : Bool) → disks e ≡ t → (o p : Option (Stamped Descriptor)) → o ≡ Some next → (r : Stamped Descriptor) → p ≡ Some r → r.value.id ≡ next.value.id
            → (if t then if_passes (is_of id) (descriptor e) else None) ≡ (if t then if_passes (is_of id) (old.descriptor e) else None)
        by_set false is o p o_is r p_is ids = refl
        by_set true is o p o_is r p_is ids = ⊎_elim
            (λ same. ap (if_passes (is_of id)) same)
            (λ own_is. by_id (next.value.id == id) refl is (descriptor e) (old.descriptor e) own_is.0 own_is.1.0 own_is.1.1 own_is.1.2 own_is.0 (within.descriptors e own_is.1.0 own_is.1.1))
            (own e)

    newest_before : newest_below (offered (is_of id) old.descriptor disks) old.disks ≡ Some m
    newest_before = (λ t. newest_below (λ e. sym (offer_same e) t) old.disks) ∙ newest

  -- the newest of a set is the next one, or it was the newest before
  old_or_next : (disks : Disks) (id : ℕ) (m : Stamped Descriptor) → descriptor_among new disks id ≡ Some m → ((m ≡ next) × (next.value.id ≡ id)) ⊎ (descriptor_among old disks id ≡ Some m)
  unfolding descriptor_among
  old_or_next disks id m newest =
      let one = is_one Descriptor (offered (is_of id) descriptor disks) old.disks m newest in
      let from = is_offered (is_of id) descriptor disks one.0 m one.2 in
      let its : m.value.id ≡ id = eqb-true m.value.id id from.1 in
      ⊎_elim
      (λ same. inr (newest_before disks id m newest one.0 (sym same ∙ from.0) its))
      (λ is. let it : m ≡ next = same_Some m next (sym from.0 ∙ is.0) in inl (it, ap (λ (x : Stamped Descriptor). x.value.id) (sym it) ∙ its))
      (own one.0)

  -- what is found was found
  found_before : (disks : Disks) (id : ℕ) (k : Descriptor) → Finds new disks id k → IsFound old id k
  found_before disks id k f = ⊎_elim
      (λ is. subst (λ (g : Descriptor). IsFound old id g) (ap (λ (x : Stamped Descriptor). x.value) (sym is.0) ∙ f.is) (subst (λ (n : ℕ). IsFound old n next.value) is.1 found))
      (λ was.
      let reads : ReadsBy new disks id k = finding_reads new disks id k f in
      let enough : CanRead f.newest.value (members_in old disks id f.newest.value) =
      subst (λ (g : Descriptor). CanRead g (members_in old disks id g)) (sym f.is) (subst (λ (v : Disks). CanRead k v) (members_same disks id k) reads.reads.enough) in
      (disks, subst (λ (g : Descriptor). Finds old disks id g) f.is (finds_from old disks id f.newest was enough)))
      (old_or_next disks id f.newest f.found)

  is_found_before : (id : ℕ) (k : Descriptor) → IsFound new id k → IsFound old id k
  is_found_before id k is = found_before is.0 id k is.1

  pub reads_before : (disks : Disks) (id : ℕ) (h : Descriptor) → ReadsGroup new disks id h → ReadsGroup old disks id h
  reads_before disks id h reads = record { found = is_found_before id h reads.found; enough = subst (λ (v : Disks). CanRead h v) (members_same disks id h) reads.enough }

  -- all disks find a group still, by a descriptor that was found and by which they could read
  record StillFound (id : ℕ) : Type 0 where
    pub group : Descriptor
    pub by_all : Finds new all_disks id group
    pub was : IsFound old id group

  still_found : (id : ℕ) (g : Descriptor) → Finds old all_disks id g → StillFound id
  unfolding descriptor_among
  still_found id g f =
      let one = is_one Descriptor (offered (is_of id) old.descriptor all_disks) old.disks f.newest f.found in
      let from = is_offered (is_of id) old.descriptor all_disks one.0 f.newest one.2 in
      ⊎_elim
      (λ same. from_offer one.0 f.newest one.1 (same ∙ from.0) from.1)
      (λ is. from_offer one.0 next one.1 is.0 (ap (λ (n : ℕ). n == id) (sym is.1.2 ∙ ap (λ (x : Stamped Descriptor). x.value.id) (same_Some is.1.0 f.newest (sym is.1.1 ∙ from.0))) ∙ from.1))
      (own one.0)
    where
      -- any disk that shows the group has a newest one among all
      from_offer : (d : ℕ) (r : Stamped Descriptor) → d < old.disks → descriptor d ≡ Some r → IsTrue (is_of id r.value) → StillFound id
      from_offer d r lt is its =
          let last = is_last Descriptor (offered (is_of id) descriptor all_disks) old.disks d r lt (offers (is_of id) descriptor all_disks d r refl is its) in
          let m : Stamped Descriptor = last.0 in
          ⊎_elim
          (λ is_next. by_found m last.1 (subst (λ (x : Stamped Descriptor). IsFound old id x.value) (sym is_next.0) (subst (λ (n : ℕ). IsFound old n next.value) is_next.1 found)))
          (λ was. by_found m last.1 (subst (λ (x : Stamped Descriptor). IsFound old id x.value) (same_Some f.newest m (sym f.found ∙ was)) (subst (λ (h : Descriptor). IsFound old id h) (sym f.is) (all_disks, f))))
          (old_or_next all_disks id m last.1)
        where
          -- what some disks can read all can
          by_found : (m : Stamped Descriptor) → descriptor_among new all_disks id ≡ Some m → IsFound old id m.value → StillFound id
          by_found m newest was =
              let reads : ReadsBy old was.0 id m.value = finding_reads old was.0 id m.value was.1 in
              let few : CanRead m.value (members_in old was.0 id m.value) = reads.reads.enough in
              let all : CanRead m.value (members_in old all_disks id m.value) =
              more_is_enough.read m.value (votes_in m.value (members_in old was.0 id m.value)) (votes_in m.value (members_in old all_disks id m.value))
              (more_have_more m.value (members_in old was.0 id m.value) (members_in old all_disks id m.value) (λ e member i. without_first (was.0 e) (passes (is_of id) (old.descriptor e)) (has_room old e m.value) i)) few in
              record {
                group = m.value;
                by_all = finds_from new all_disks id m newest (subst (λ (v : Disks). CanRead m.value v) (sym (members_same all_disks id m.value)) all);
                was = was;
              }

  module _ (facts : List Fact) (kept : Kept old facts) where
    -- what holds by the members and their status before holds by them now
    by_members : (P : Disks → Option (Stamped Status) → Type 0) (a b : Disks) (id : ℕ) (k h : Descriptor) → P (members_in old a id k) (status_by old b id h) → P (members_in new a id k) (status_by new b id h)
    by_members P a b id k h p =
        subst (λ (s : Option (Stamped Status)). P (members_in new a id k) s) (sym (status_same b id h)) (subst (λ (v : Disks). P v (status_by old b id h)) (sym (members_same a id k)) p)

    across : (b : Disks) (id : ℕ) (h k : Descriptor) → ReadsGroup new b id h → IsFound new id k → BlocksKept new facts k (members_in new all_disks id k) (status_by new b id h)
    across b id h k reads is = same_blocks old descriptor old.status facts k (members_in new all_disks id k) (status_by new b id h)
        (by_members (λ v s. BlocksKept old facts k v s) all_disks b id k h (kept.lasting.across b id h k (reads_before b id h reads) (is_found_before id k is)))

    -- P holds of the voters of a finding set and its status where it does of its members and theirs
    finding : (disks : Disks) (id : ℕ) (k : Descriptor) → Finds new disks id k → (P : Disks → Option (Stamped Status) → Type 0) → P (members_in new disks id k) (status_by new disks id k) → P (is_voter new disks id) (status_among new disks id)
    finding disks id k f P p =
        let reads : ReadsBy new disks id k = finding_reads new disks id k f in
        subst (λ (s : Option (Stamped Status)). P (is_voter new disks id) s) (sym reads.status) (subst (λ (v : Disks). P v (status_by new disks id k)) (sym reads.voters) p)

    copies : (disks : Disks) (id : ℕ) (k : Descriptor) → Finds new disks id k → BlocksKept new facts k (is_voter new disks id) (status_among new disks id)
    copies disks id k f = finding disks id k f (λ v s. BlocksKept new facts k v s)
        (fewer_blocks new (members_in new disks id k) (members_in new all_disks id k) (λ d i. without_first (disks d) (passes (is_of id) (descriptor d)) (has_room new d k) i) facts k (status_by new disks id k)
        (across disks id k k (finding_reads new disks id k f).reads (disks, f)))

    available : (lv : ℕ) → IsSettledIn facts lv → IsAvailable new facts
    available lv settled =
        let a : IsAvailable old facts = kept.agrees.available lv settled in
        let now : StillFound a.id = still_found a.id a.group a.found in
        let reads : ReadsBy new all_disks a.id now.group = finding_reads new all_disks a.id now.group now.by_all in
        record {
          id = a.id;
          group = now.group;
          found = now.by_all;
          copies = λ l lp row is_settled is inside. finding all_disks a.id now.group now.by_all (λ v s. IsSome (fresh_on v s row lp))
              (by_members (λ v s. IsSome (fresh_on v s row lp)) all_disks all_disks a.id now.group now.group
              (kept.lasting.some all_disks a.id now.group now.group (reads_before all_disks a.id now.group reads.reads) now.was row lp (volume_is_row now.group l row is) inside));
        }

    one_of : (d e : ℕ) (r s : Stamped Descriptor) → descriptor d ≡ Some r → descriptor e ≡ Some s → r.value.id ≡ s.value.id → r.stamp ≡ s.stamp → r ≡ s
    one_of d e r s is also ids stamps = ⊎_elim
        (λ old_r. ⊎_elim
        (λ old_s. kept.lasting.descriptors d e r s (sym old_r ∙ is) (sym old_s ∙ also) ids stamps)
        (λ new_s. let same : s ≡ next = same_Some s next (sym also ∙ new_s.0) in
        absurd (clash d r (sym old_r ∙ is) (ids ∙ ap (λ (x : Stamped Descriptor). x.value.id) same) (stamps ∙ ap (λ (x : Stamped Descriptor). x.stamp) same)))
        (own e))
        (λ new_r. let same : r ≡ next = same_Some r next (sym is ∙ new_r.0) in ⊎_elim
        (λ old_s. absurd (clash e s (sym old_s ∙ also) (sym ids ∙ ap (λ (x : Stamped Descriptor). x.value.id) same) (sym stamps ∙ ap (λ (x : Stamped Descriptor). x.stamp) same)))
        (λ new_s. same ∙ sym (same_Some s next (sym also ∙ new_s.0)))
        (own e))
        (own d)
      where
        clash : (d : ℕ) (r : Stamped Descriptor) → old.descriptor d ≡ Some r → r.value.id ≡ next.value.id → r.stamp ≡ next.stamp → ⊥
        clash d r stood ids stamps = not-itself next.stamp (ap (λ (x : Stamp). stamp_lt x next.stamp) (sym stamps) ∙ later d r stood ids)

    still_none : (d : ℕ) → descriptor d ≡ None → old.descriptor d ≡ None
    still_none d none = ⊎_elim (λ same. sym same ∙ none) (λ is. absurd (let e : Some next ≡ None = sym is.0 ∙ none in cc (e))) (own d)

    pub restamped : Kept new facts
    restamped = record {
      agrees = record {
        volumes = λ disks id k f lv. let was = found_before disks id k f in kept.agrees.volumes was.0 id k was.1 lv;
        status = λ disks id k f. finding disks id k f (λ v s. HasStatus k.lvs s)
            (by_members (λ v s. HasStatus k.lvs s) disks disks id k k (kept.lasting.status disks id k k (reads_before disks id k (finding_reads new disks id k f).reads) (found_before disks id k f)));
        copies = copies;
        raw = λ d b there none low high. kept.agrees.raw d b there (still_none d none) low high;
        available = available;
      };
      lasting = record {
        common = λ a b id g h r s.
            let one = kept.lasting.common a b id g h (reads_before a id g r) (reads_before b id h s) in
            (one.0, subst (λ (v : Disks). IsTrue (v one.0)) (sym (members_same a id g)) one.1, subst (λ (v : Disks). IsTrue (v one.0)) (sym (members_same b id h)) one.2);
        status = λ b id h k r is. by_members (λ v s. HasStatus k.lvs s) b b id h h (kept.lasting.status b id h k (reads_before b id h r) (is_found_before id k is));
        across = across;
        some = λ b id h k r is row lp one inside. by_members (λ v s. IsSome (fresh_on v s row lp)) all_disks b id k h (kept.lasting.some b id h k (reads_before b id h r) (is_found_before id k is) row lp one inside);
        size = λ id g h is also. kept.lasting.size id g h (is_found_before id g is) (is_found_before id h also);
        partitions = λ id g h is also. kept.lasting.partitions id g h (is_found_before id g is) (is_found_before id h also);
        descriptors = one_of;
        statuses = kept.lasting.statuses;
      };
    }

pub restamping_keeps : RestampingKeeps
restamping_keeps old new facts next within change kept =
    subst (λ (c : Contents). Kept c facts) (sym change.rest) (restamped old new.descriptor next change.own change.later change.found within facts kept)
