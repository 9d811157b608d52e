-- A disk that has left loses its descriptor.
use Rattle.std.proofs.Common.{◌≡◌, inl, inr, ⊎_elim, ℕ, ◌<◌, ◌≤◌, Bool, true, false, ◌&&◌, List, [], ◌∷◌, ◌++◌, Option, Some, None, refl, sym, ap, subst, ◌∙◌, eq-eqb}
use Rattle.std.specs.Prelude.{IsTrue, ◌==◌, not, if◌then◌else◌}
use Rattle.std.proofs.lemmas.Bool.{eqb-true, ne_eqb, cases_eq}
use Rattle.lvm_disk.specs.passed.Num.{Descriptor, Status, LvRow, Disks, data_start, all_disks, CanRead, CanWrite, Stamped, newest_below}
use Rattle.lvm_disk.proofs.passed.Num.{read_meets_write, without_first}
use Rattle.lvm_vol.specs.declared.entry.Vol.TheVariants.{Disk}
use Rattle.lvm_vol.specs.Facts.{Fact, Cut}
use Rattle.lvm_vol.specs.May.{May, known}
use Rattle.lvm_kept.specs.Contents.{Contents}
use Rattle.lvm_kept.specs.Group.{if_passes, passes, is_of, is_status_of, has_room, descriptor_among, is_voter, status_among, Finds, IsFound, members_in, status_by, ReadsGroup, ReadsBy, fresh_on, IsOneOf, IsSome}
use Rattle.lvm_kept.specs.Kept.{HasStatus, BlocksKept, IsSettledIn, IsAvailable, Kept}
use Rattle.lvm_kept.specs.Committed.{IsWithinDisks}
use Rattle.lvm_kept.proofs.CommittedLemmas.Finding.{offered, finding_reads, finds_from}
use Rattle.lvm_kept.proofs.ChangesLemmas.Entries.{volume_is_row}
use Rattle.lvm_kept.proofs.ChangesLemmas.Restamping.{fewer_blocks}
use Rattle.lvm_kept.proofs.KeptLemmas.{same_blocks}
use Rattle.lvm_change_laws.proofs.Words.{newest_looked}
use Rattle.lvm_commit.specs.Committed.{ShowsCommitted}
use Rattle.lvm_change_laws.specs.Committed.{ErasingKeeps}

module _ (old : Contents) (shown : ℕ → Option (Stamped Descriptor)) (facts : List Fact) (group : Descriptor) (status : Status) (there : Disks) (x : ℕ)
    (within : IsWithinDisks old) (enough : CanWrite group there) (shows : ShowsCommitted old group status there) (no_member : has_room old x group ≡ false) (its : IsTrue (passes (is_of group.id) (old.descriptor x)))
    (gone : shown x ≡ None) (others : (d : ℕ) → (d ≡ x → ⊥) → shown d ≡ old.descriptor d)
    (unknown : (b : ℕ) → data_start ≤ b → b < old.size x → May (known (facts ++ Cut ∷ []) (Disk x) b) (old.block x b)) (kept : Kept old facts) where
  abbrev new : Contents
  new = record old { descriptor = shown }

  abbrev id : ℕ
  id = group.id

  -- the set without the disk
  abbrev rest : Disks → Disks
  rest b d = b d && not (d == x)

  at_x : (P : ℕ → Type 0) → P x → ((d : ℕ) → (d ≡ x → ⊥) → P d) → (d : ℕ) → P d
  at_x P here apart d = ⊎_elim (λ (e : d ≡ x). subst P (sym e) here) (λ (n : d ≡ x → ⊥). apart d n) (cases_eq d x)

  not_in : (b : Disks) → rest b x ≡ false
  not_in b = by_test (b x) (x == x) (eq-eqb x x refl)
    where
      by_test : (p q : Bool) → q ≡ true → p && not q ≡ false
      by_test true true e = refl
      by_test true false e = absurd cc
      by_test false q e = refl

  still_in : (b : Disks) (d : ℕ) → (d ≡ x → ⊥) → rest b d ≡ b d
  still_in b d apart = by_test (b d) (d == x) (ne_eqb d x apart)
    where
      by_test : (p q : Bool) → q ≡ false → p && not q ≡ p
      by_test true true e = absurd cc
      by_test true false e = refl
      by_test false q e = refl

  offer_same : (b : Disks) (i d : ℕ) → offered (is_of i) shown b d ≡ offered (is_of i) old.descriptor (rest b) d
  offer_same b i = at_x (λ d. offered (is_of i) shown b d ≡ offered (is_of i) old.descriptor (rest b) d)
      (none_here (b x) ∙ sym (ap (λ (t : Bool). if t then if_passes (is_of i) (old.descriptor x) else None) (not_in b)))
      (λ d apart. ap (λ (o : Option (Stamped Descriptor)). if b d then if_passes (is_of i) o else None) (others d apart) ∙ ap (λ (t : Bool). if t then if_passes (is_of i) (old.descriptor d) else None) (sym (still_in b d apart)))
    where
      none_here : (t : Bool) → (if t then if_passes (is_of i) (shown x) else None) ≡ None
      none_here true = ap (if_passes (is_of i)) gone
      none_here false = refl

  among_same : (b : Disks) (i : ℕ) → descriptor_among new b i ≡ descriptor_among old (rest b) i
  unfolding descriptor_among
  among_same b i t = newest_below (λ d. offer_same b i d t) old.disks

  member_same : (b : Disks) (i : ℕ) (k : Descriptor) (d : ℕ) → members_in new b i k d ≡ members_in old (rest b) i k d
  member_same b i k = at_x (λ d. members_in new b i k d ≡ members_in old (rest b) i k d)
      (none_here (b x) ∙ sym (ap (λ (t : Bool). t && passes (is_of i) (old.descriptor x) && has_room old x k) (not_in b)))
      (λ d apart. ap (λ (o : Option (Stamped Descriptor)). b d && passes (is_of i) o && has_room old d k) (others d apart) ∙ ap (λ (t : Bool). t && passes (is_of i) (old.descriptor d) && has_room old d k) (sym (still_in b d apart)))
    where
      none_here : (t : Bool) → (t && passes (is_of i) (shown x) && has_room old x k) ≡ false
      none_here true = ap (λ (o : Option (Stamped Descriptor)). passes (is_of i) o && has_room old x k) gone
      none_here false = refl

  members_same : (b : Disks) (i : ℕ) (k : Descriptor) → members_in new b i k ≡ members_in old (rest b) i k
  members_same b i k t d = member_same b i k d t

  status_same : (b : Disks) (i : ℕ) (k : Descriptor) → status_by new b i k ≡ status_by old (rest b) i k
  status_same b i k =
      let same : members_in new b i k ≡ members_in old (rest b) i k = members_same b i k in
      λ t. newest_below (λ d. if same t d then if_passes (is_status_of i) (old.status d) else None) old.disks

  -- what a set finds was found by what is left of it
  finds_before : (b : Disks) (i : ℕ) (k : Descriptor) → Finds new b i k → Finds old (rest b) i k
  finds_before b i k f =
      let reads : ReadsBy new b i k = finding_reads new b i k f in
      let enough : CanRead f.newest.value (members_in old (rest b) i f.newest.value) =
      subst (λ (y : Descriptor). CanRead y (members_in old (rest b) i y)) (sym f.is) (subst (λ (v : Disks). CanRead k v) (members_same b i k) reads.reads.enough) in
      subst (λ (y : Descriptor). Finds old (rest b) i y) f.is (finds_from old (rest b) i f.newest (sym (among_same b i) ∙ f.found) enough)

  found_before : (i : ℕ) (k : Descriptor) → IsFound new i k → IsFound old i k
  found_before i k is = (rest is.0, finds_before is.0 i k is.1)

  reads_before : (b : Disks) (i : ℕ) (k : Descriptor) → ReadsGroup new b i k → ReadsGroup old (rest b) i k
  reads_before b i k r = record { found = found_before i k r.found; enough = subst (λ (v : Disks). CanRead k v) (members_same b i k) r.enough }

  -- of what is found the disk is no member
  no_room : (i : ℕ) (k : Descriptor) → IsFound old i k → passes (is_of i) (old.descriptor x) && has_room old x k ≡ false
  no_room i k is = ⊎_elim
      (λ (e : i ≡ id).
      let same : k ≡ group = shows.only is.0 k (subst (λ (n : ℕ). Finds old is.0 n k) e is.1) in
      ap (λ (y : Descriptor). passes (is_of i) (old.descriptor x) && has_room old x y) same ∙ ap (λ (t : Bool). passes (is_of i) (old.descriptor x) && t) no_member ∙ ends_false (passes (is_of i) (old.descriptor x)))
      (λ (apart : i ≡ id → ⊥). ap (λ (t : Bool). t && has_room old x k) (of_other i apart (old.descriptor x) its))
      (cases_eq i id)
    where
      ends_false : (b : Bool) → b && false ≡ false
      ends_false true = refl
      ends_false false = refl

      by_test : (i : ℕ) (r : Stamped Descriptor) (t : Bool) → (i ≡ id → ⊥) → (r.value.id == i) ≡ t → r.value.id ≡ id → t ≡ false
      by_test i r true apart is own = absurd (apart (sym (eqb-true r.value.id i is) ∙ own))
      by_test i r false apart is own = refl

      of_other : (i : ℕ) → (i ≡ id → ⊥) → (o : Option (Stamped Descriptor)) → IsTrue (passes (is_of id) o) → passes (is_of i) o ≡ false
      of_other i apart None own = refl
      of_other i apart (Some r) own = by_test i r (r.value.id == i) apart refl (eqb-true r.value.id id own)

  all_same : (i : ℕ) (k : Descriptor) → IsFound old i k → members_in new all_disks i k ≡ members_in old all_disks i k
  all_same i k is t d = each d t
    where
      each : (d : ℕ) → members_in new all_disks i k d ≡ members_in old all_disks i k d
      each = at_x (λ d. members_in new all_disks i k d ≡ members_in old all_disks i k d)
          (ap (λ (o : Option (Stamped Descriptor)). passes (is_of i) o && has_room old x k) gone ∙ sym (no_room i k is))
          (λ d apart. ap (λ (o : Option (Stamped Descriptor)). passes (is_of i) o && has_room old d k) (others d apart))

  -- P holds of all members and the status that a set reads where it did
  by_read : (P : Disks → Option (Stamped Status) → Type 0) (b : Disks) (i : ℕ) (h k : Descriptor) → IsFound old i k → P (members_in old all_disks i k) (status_by old (rest b) i h) → P (members_in new all_disks i k) (status_by new b i h)
  by_read P b i h k is p = subst (λ (s : Option (Stamped Status)). P (members_in new all_disks i k) s) (sym (status_same b i h)) (subst (λ (v : Disks). P v (status_by old (rest b) i h)) (sym (all_same i k is)) p)

  status_there : (b : Disks) (i : ℕ) (h k : Descriptor) → ReadsGroup new b i h → IsFound new i k → HasStatus k.lvs (status_by new b i h)
  status_there b i h k r is = by_read (λ v s. HasStatus k.lvs s) b i h k (found_before i k is) (kept.lasting.status (rest b) i h k (reads_before b i h r) (found_before i k is))

  across : (b : Disks) (i : ℕ) (h k : Descriptor) → ReadsGroup new b i h → IsFound new i k → BlocksKept new facts k (members_in new all_disks i k) (status_by new b i h)
  across b i h k r is = same_blocks old shown old.status facts k (members_in new all_disks i k) (status_by new b i h)
      (by_read (λ v s. BlocksKept old facts k v s) b i h k (found_before i k is) (kept.lasting.across (rest b) i h k (reads_before b i h r) (found_before i k is)))

  some : (b : Disks) (i : ℕ) (h k : Descriptor) → ReadsGroup new b i h → IsFound new i k → (row : LvRow) (lp : ℕ) → IsOneOf k.lvs row → lp < row.lps → IsSome (fresh_on (members_in new all_disks i k) (status_by new b i h) row lp)
  some b i h k r is row lp one inside = by_read (λ v s. IsSome (fresh_on v s row lp)) b i h k (found_before i k is) (kept.lasting.some (rest b) i h k (reads_before b i h r) (found_before i k is) row lp one inside)

  finding : (b : Disks) (i : ℕ) (k : Descriptor) → Finds new b i k → (P : Disks → Option (Stamped Status) → Type 0) → P (members_in new b i k) (status_by new b i k) → P (is_voter new b i) (status_among new b i)
  finding b i k f P p =
      let r : ReadsBy new b i k = finding_reads new b i k f in
      subst (λ (s : Option (Stamped Status)). P (is_voter new b i) s) (sym r.status) (subst (λ (v : Disks). P v (status_by new b i k)) (sym r.voters) p)

  copies : (b : Disks) (i : ℕ) (k : Descriptor) → Finds new b i k → BlocksKept new facts k (is_voter new b i) (status_among new b i)
  copies b i k f = finding b i k f (λ v s. BlocksKept new facts k v s)
      (fewer_blocks new (members_in new b i k) (members_in new all_disks i k) (λ d in_set. without_first (b d) (passes (is_of i) (shown d)) (has_room new d k) in_set) facts k (status_by new b i k)
      (across b i k k (finding_reads new b i k f).reads (b, f)))

  -- ---- all disks

  not_x : (d : ℕ) → IsTrue (there d) → d ≡ x → ⊥
  not_x d in_there e = clash (has_room old x group) (subst (λ (n : ℕ). IsTrue (has_room old n group)) e (shows.room d in_there)) no_member
    where
      clash : (b : Bool) → IsTrue b → b ≡ false → ⊥
      clash true p q = absurd cc
      clash false p q = absurd cc

  was_shown : (d : ℕ) (r : Stamped Descriptor) → shown d ≡ Some r → old.descriptor d ≡ Some r
  was_shown d r = at_x (λ e. shown e ≡ Some r → old.descriptor e ≡ Some r) (λ is. absurd (let e : Some r ≡ None = sym is ∙ gone in cc (e))) (λ e apart is. sym (others e apart) ∙ is) d

  -- all read it, and meet the members that aren't missing, which show it
  pub still_found : Finds new all_disks id group
  unfolding descriptor_among
  still_found =
      let reads : ReadsBy old all_disks id group = finding_reads old all_disks id group shows.found in
      let can : CanRead group (members_in new all_disks id group) = subst (λ (v : Disks). CanRead group v) (sym (all_same id group (all_disks, shows.found))) reads.reads.enough in
      let m = read_meets_write group (members_in new all_disks id group) there can enough in
      let d : ℕ = m.0 in
      let is : shown d ≡ Some shows.descriptor = others d (not_x d m.3) ∙ shows.described d m.3 in
      let own : shows.descriptor.value.id ≡ id = ap (λ (y : Descriptor). y.id) shows.value in
      let newest : newest_below (offered (is_of id) shown all_disks) old.disks ≡ Some shows.descriptor = ⊎_elim (λ e. e) (λ e. e)
      (newest_looked Descriptor (is_of id) shown all_disks old.disks shows.descriptor shows.descriptor (eq-eqb shows.descriptor.value.id id own) (eq-eqb shows.descriptor.value.id id own) (inl refl)
      (λ e r looks is_shown of_it. ⊎_elim (λ low. inl low) (λ same. inr (inl same)) (shows.latest e r (was_shown e r is_shown) (eqb-true r.value.id id of_it)))
      d refl (inl is) (λ e r is_shown. within.descriptors e r (was_shown e r is_shown))) in
      subst (λ (y : Descriptor). Finds new all_disks id y) shows.value (finds_from new all_disks id shows.descriptor newest (subst (λ (y : Descriptor). CanRead y (members_in new all_disks id y)) (sym shows.value) can))

  none_if_fails : (i : ℕ) (o : Option (Stamped Descriptor)) → passes (is_of i) o ≡ false → if_passes (is_of i) o ≡ None
  none_if_fails i None e = refl
  none_if_fails i (Some r) e = ap (λ (t : Bool). if t then Some r else None) e

  by_id : (i : ℕ) (r : Stamped Descriptor) (t : Bool) → (i ≡ id → ⊥) → (r.value.id == i) ≡ t → r.value.id ≡ id → t ≡ false
  by_id i r true apart is own = absurd (apart (sym (eqb-true r.value.id i is) ∙ own))
  by_id i r false apart is own = refl

  fails_other : (i : ℕ) → (i ≡ id → ⊥) → (o : Option (Stamped Descriptor)) → IsTrue (passes (is_of id) o) → passes (is_of i) o ≡ false
  fails_other i apart None own = refl
  fails_other i apart (Some r) own = by_id i r (r.value.id == i) apart refl (eqb-true r.value.id id own)

  other_offer : (i d : ℕ) → (i ≡ id → ⊥) → if_passes (is_of i) (shown d) ≡ if_passes (is_of i) (old.descriptor d)
  other_offer i d apart = at_x (λ e. if_passes (is_of i) (shown e) ≡ if_passes (is_of i) (old.descriptor e))
      (ap (if_passes (is_of i)) gone ∙ sym (none_if_fails i (old.descriptor x) (fails_other i apart (old.descriptor x) its)))
      (λ e other. ap (if_passes (is_of i)) (others e other)) d

  other_found : (i : ℕ) (k : Descriptor) → (i ≡ id → ⊥) → Finds old all_disks i k → Finds new all_disks i k
  unfolding descriptor_among
  other_found i k apart f =
      let newest : newest_below (offered (is_of i) shown all_disks) old.disks ≡ Some f.newest = (λ t. newest_below (λ d. other_offer i d apart t) old.disks) ∙ f.found in
      let reads : ReadsBy old all_disks i k = finding_reads old all_disks i k f in
      let can : CanRead k (members_in new all_disks i k) = subst (λ (v : Disks). CanRead k v) (sym (all_same i k (all_disks, f))) reads.reads.enough in
      subst (λ (y : Descriptor). Finds new all_disks i y) f.is (finds_from new all_disks i f.newest newest (subst (λ (y : Descriptor). CanRead y (members_in new all_disks i y)) (sym f.is) can))

  available : (lv : ℕ) → IsSettledIn facts lv → IsAvailable new facts
  available lv settled =
      let a : IsAvailable old facts = kept.agrees.available lv settled in
      let f : (y : Descriptor) × Finds new all_disks a.id y = ⊎_elim
      (λ (e : a.id ≡ id). subst (λ (n : ℕ). (y : Descriptor) × Finds new all_disks n y) (sym e) (group, still_found))
      (λ (apart : a.id ≡ id → ⊥). (a.group, other_found a.id a.group apart a.found))
      (cases_eq a.id id) in
      record {
        id = a.id;
        group = f.0;
        found = f.1;
        copies = λ l lp row is_settled is_row inside. finding all_disks a.id f.0 f.1 (λ v s. IsSome (fresh_on v s row lp))
            (some all_disks a.id f.0 f.0 (finding_reads new all_disks a.id f.0 f.1).reads (all_disks, f.1) row lp (volume_is_row f.0 l row is_row) inside);
      }

  raw : (d b : ℕ) → d < old.disks → shown d ≡ None → data_start ≤ b → b < old.size d → May (known (facts ++ Cut ∷ []) (Disk d) b) (old.block d b)
  raw d b = at_x (λ e. e < old.disks → shown e ≡ None → data_start ≤ b → b < old.size e → May (known (facts ++ Cut ∷ []) (Disk e) b) (old.block e b))
      (λ lt none low high. unknown b low high)
      (λ e apart lt none low high. kept.agrees.raw e b lt (sym (others e apart) ∙ none) low high) d

  pub erased_keeps : Kept new facts
  erased_keeps = record {
    agrees = record {
      volumes = λ b i k f lv. kept.agrees.volumes (rest b) i k (finds_before b i k f) lv;
      status = λ b i k f. finding b i k f (λ v s. HasStatus k.lvs s) (status_there b i k k (finding_reads new b i k f).reads (b, f));
      copies = copies;
      raw = raw;
      available = available;
    };
    lasting = record {
      common = λ a b i g h r s.
          let one = kept.lasting.common (rest a) (rest b) i g h (reads_before a i g r) (reads_before b i h s) in
          (one.0, subst (λ (v : Disks). IsTrue (v one.0)) (sym (members_same a i g)) one.1, subst (λ (v : Disks). IsTrue (v one.0)) (sym (members_same b i h)) one.2);
      status = status_there;
      across = across;
      some = some;
      size = λ i g h p q. kept.lasting.size i g h (found_before i g p) (found_before i h q);
      partitions = λ i g h p q. kept.lasting.partitions i g h (found_before i g p) (found_before i h q);
      descriptors = λ d e r s p q. kept.lasting.descriptors d e r s (was_shown d r p) (was_shown e s q);
      statuses = kept.lasting.statuses;
    };
  }

  pub erased_shows : ShowsCommitted new group status there
  erased_shows = record {
    found = still_found;
    only = λ disks k f. shows.only (rest disks) k (finds_before disks id k f);
    descriptor = shows.descriptor;
    value = shows.value;
    latest = λ d r e own. shows.latest d r (was_shown d r e) own;
    described = λ d is. others d (not_x d is) ∙ shows.described d is;
    room = shows.room;
    own = shows.own;
    stands = shows.stands;
    committed = shows.committed;
    stated = shows.stated;
    last = shows.last;
  }

-- ---- it loses it or keeps it

pub erasing_keeps : ErasingKeeps
erasing_keeps old new facts group status there x within enough shows may kept = ⊎_elim
    (λ (same : new.descriptor x ≡ old.descriptor x).
    let all : new.descriptor ≡ old.descriptor = λ t d. each same d t in
    let is : new ≡ old = may.rest ∙ ap (λ (f : ℕ → Option (Stamped Descriptor)). record old { descriptor = f }) all in (
      subst (λ (c : Contents). Kept c facts) (sym is) kept,
      subst (λ (c : Contents). ShowsCommitted c group status there) (sym is) shows,
      λ o k apart found. subst (λ (c : Contents). IsFound c o k) is found,
    ))
    (λ (gone : (x ≡ x) × (new.descriptor x ≡ None)).
    let no : (d : ℕ) → (d ≡ x → ⊥) → new.descriptor d ≡ old.descriptor d = λ d apart. other d apart in (
      subst (λ (c : Contents). Kept c facts) (sym may.rest) (erased_keeps old new.descriptor facts group status there x within enough shows may.no_member may.shows gone.1 no may.unknown kept),
      subst (λ (c : Contents). ShowsCommitted c group status there) (sym may.rest) (erased_shows old new.descriptor facts group status there x within enough shows may.no_member may.shows gone.1 no may.unknown kept),
      λ o k apart found. found_before old new.descriptor facts group status there x within enough shows may.no_member may.shows gone.1 no may.unknown kept o k (subst (λ (c : Contents). IsFound c o k) may.rest found),
    ))
    (may.own x)
  where
    other : (d : ℕ) → (d ≡ x → ⊥) → new.descriptor d ≡ old.descriptor d
    other d apart = ⊎_elim (λ same. same) (λ (e : (d ≡ x) × (new.descriptor d ≡ None)). absurd (apart e.0)) (may.own d)

    each : new.descriptor x ≡ old.descriptor x → (d : ℕ) → new.descriptor d ≡ old.descriptor d
    each same d = ⊎_elim (λ (e : d ≡ x). subst (λ (n : ℕ). new.descriptor n ≡ old.descriptor n) (sym e) same) (λ (apart : d ≡ x → ⊥). other d apart) (cases_eq d x)
