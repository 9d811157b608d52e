-- A status that serves a group keeps the history where it is put on disks.
use Rattle.std.proofs.Common.{◌≡◌, ◌⊎◌, inl, inr, ⊎_elim, ℕ, zero, suc, ◌<◌, Bool, true, false, List, Option, Some, None, refl, sym, ap, subst, ◌∙◌, eq-eqb, arith}
use Rattle.std.specs.Prelude.{IsTrue, ◌==◌, if◌then◌else◌}
use Rattle.std.proofs.lemmas.Bool.{eqb-true, cases_lt}
use Rattle.lvm_num.specs.declared.record.Stamp.{Stamp}
use Rattle.lvm_num.specs.declared.descriptor.LvRow.{LvRow}
use Rattle.lvm_num.specs.declared.descriptor.Descriptor.{Descriptor}
use Rattle.lvm_num.specs.declared.status.Status.{Status}
use Rattle.lvm_num.specs.Disks.{Disks}
use Rattle.lvm_num.specs.Votes.{all_disks}
use Rattle.lvm_num.specs.Record.{Stamped, stamp_lt, newer, newest_below}
use Rattle.lvm_num.proofs.RecordLemmas.Newest.{is_one, is_last}
use Rattle.lvm_vol.specs.Facts.{Fact}
use Rattle.lvm_kept.specs.Contents.{Contents}
use Rattle.lvm_kept.specs.Group.{if_passes, passes, is_of, is_status_of, IsFound, members_in, status_by, ReadsGroup, ReadsBy, fresh_on, IsOneOf, IsSome}
use Rattle.lvm_kept.specs.Kept.{BlocksKept, Kept}
use Rattle.lvm_kept.specs.Changes.{Serves, HasNoVolume}
use Rattle.lvm_kept.specs.Torn.{StatusesChange}
use Rattle.lvm_kept.proofs.CommittedLemmas.Finding.{offered, is_offered, finding_reads}
use Rattle.lvm_kept.proofs.ChangesLemmas.Restamping.{fewer_blocks}
use Rattle.lvm_kept.proofs.ChangesLemmas.Restating.{statuses_keep}
use Rattle.lvm_steps.proofs.RecordLemmas.{either, clash, not-itself}
use Rattle.lvm_steps.proofs.GroupLemmas.Members.{one_group, parts_of, among_all}

-- ---- the newest where a later one comes

below_same : {X : Type 0} (f g : ℕ → Option (Stamped X)) (n : ℕ) → ((d : ℕ) → d < n → f d ≡ g d) → newest_below f n ≡ newest_below g n
unfolding newest_below
below_same f g zero same = refl
below_same f g (suc n) same =
    let rest = below_same f g n (λ d lt. same d (omega (arith, lt))) in
    let here = same n (omega arith) in
    λ t. newer (rest t) (here t)

module _ (X : Type 0) (of : X → Bool) (old new : ℕ → Option (Stamped X)) (set : Disks) (next : Stamped X) (its : of next.value ≡ true)
    (own : (d : ℕ) → (new d ≡ old d) ⊎ (new d ≡ Some next)) (later : (d : ℕ) (r : Stamped X) → old d ≡ Some r → of r.value ≡ true → stamp_lt r.stamp next.stamp ≡ true) where
  -- one of the disks offers the next record, or each offers what it did
  abbrev Offers : ℕ → Type 0
  Offers n = ((d : ℕ) × (d < n) × (offered of new set d ≡ Some next)) ⊎ ((d : ℕ) → d < n → offered of new set d ≡ offered of old set d)

  at_one : (d : ℕ) → (offered of new set d ≡ Some next) ⊎ (offered of new set d ≡ offered of old set d)
  at_one d = ⊎_elim
      (λ same. inr (ap (λ (o : Option (Stamped X)). if set d then if_passes of o else None) same))
      (λ is. by_set (set d) is)
      (own d)
    where
      by_set : (t : Bool) → new d ≡ Some next → ((if t then if_passes of (new d) else None) ≡ Some next) ⊎ ((if t then if_passes of (new d) else None) ≡ (if t then if_passes of (old d) else None))
      by_set false is = inr refl
      by_set true is = inl (ap (if_passes of) is ∙ ap (λ (t : Bool). if t then Some next else None) its)

  some_offers : (n : ℕ) → Offers n
  some_offers zero = inr (λ d lt. absurd (omega (arith, lt)))
  some_offers (suc n) = ⊎_elim
      (λ one. inl (one.0, (let lt = one.1 in omega (arith, lt)), one.2))
      (λ (none : (d : ℕ) → d < n → offered of new set d ≡ offered of old set d). ⊎_elim
      (λ here. inl (n, omega arith, here))
      (λ (same : offered of new set n ≡ offered of old set n). inr (λ d lt. at_last d n lt none same))
      (at_one n))
      (some_offers n)
    where
      at_last : (d n : ℕ) → d < suc n → ((d : ℕ) → d < n → offered of new set d ≡ offered of old set d) → offered of new set n ≡ offered of old set n → offered of new set d ≡ offered of old set d
      at_last d n lt none same = ⊎_elim
          (λ less. none d less)
          (λ most. let e : d ≡ n = omega (arith, lt, most) in subst (λ (m : ℕ). offered of new set m ≡ offered of old set m) (sym e) same)
          (cases_lt d n)

  pub old_or_next : (n : ℕ) → (newest_below (offered of new set) n ≡ newest_below (offered of old set) n) ⊎ (newest_below (offered of new set) n ≡ Some next)
  old_or_next n = ⊎_elim
      (λ (one : (d : ℕ) × (d < n) × (offered of new set d ≡ Some next)). inr (is_next one.0 one.1 one.2))
      (λ same. inl (below_same (offered of new set) (offered of old set) n same))
      (some_offers n)
    where
      is_next : (d : ℕ) → d < n → offered of new set d ≡ Some next → newest_below (offered of new set) n ≡ Some next
      is_next d lt here =
          let last = is_last X (offered of new set) n d next lt here in
          let one = is_one X (offered of new set) n last.0 last.1 in
          let from = is_offered of new set one.0 last.0 one.2 in
          ⊎_elim
          (λ (same : new one.0 ≡ old one.0). absurd (clash (stamp_lt last.0.stamp next.stamp) (later one.0 last.0 (sym same ∙ from.0) from.1) last.2))
          (λ (it : new one.0 ≡ Some next). last.1 ∙ sym from.0 ∙ it)
          (own one.0)

-- ---- a group's next status

module _ (c : Contents) (id : ℕ) (next : Stamped Status) (facts : List Fact) where
  -- it serves where one group is found, of which it keeps the blocks and leaves each logical partition a fresh copy
  pub serving : (group : Descriptor) → ((k : Descriptor) → IsFound c id k → k ≡ group) → ((k : Descriptor) → IsFound c id k → BlocksKept c facts k (members_in c all_disks id k) (Some next))
      → ((row : LvRow) (lp : ℕ) → IsOneOf group.lvs row → lp < row.lps → IsSome (fresh_on (members_in c all_disks id group) (Some next) row lp)) → Serves c facts id next
  serving group one across some = record {
    copies = λ set g f.
        let reads : ReadsBy c set id g = finding_reads c set id g f in
        subst (λ (v : Disks). BlocksKept c facts g v (Some next)) (sym reads.voters)
        (fewer_blocks c (members_in c set id g) (members_in c all_disks id g) (λ d is. among_all c set id g d is) facts g (Some next) (across g (set, f)));
    across = across;
    some = λ k is row lp volume inside.
        let same : k ≡ group = one k is in
        subst (λ (g : Descriptor). IsSome (fresh_on (members_in c all_disks id g) (Some next) row lp)) (sym same) (some row lp (subst (λ (g : Descriptor). IsOneOf g.lvs row) same volume) inside);
  }

module _ (c : Contents) (id : ℕ) (next : Stamped Status) (facts : List Fact) (targets : Disks) (new : Contents) (change : StatusesChange targets next c new) (own : next.value.id ≡ id)
    (showing : (d : ℕ) → IsTrue (targets d) → passes (is_of id) (c.descriptor d) ≡ true)
    (later : (d : ℕ) (r : Stamped Status) → c.status d ≡ Some r → r.value.id ≡ id → stamp_lt r.stamp next.stamp ≡ true) (serves : Serves c facts id next) (kept : Kept c facts) where
  abbrev now : Contents
  now = record c { status = new.status }

  either_own : (d : ℕ) → (new.status d ≡ c.status d) ⊎ (new.status d ≡ Some next)
  either_own d = ⊎_elim (λ same. inl same) (λ (is : IsTrue (targets d) × (new.status d ≡ Some next)). inr is.1) (change.own d)

  -- of another group each set finds what it found
  of_other : (b : Disks) (other : ℕ) (h : Descriptor) → (other ≡ id → ⊥) → status_by now b other h ≡ status_by c b other h
  of_other b other h apart = λ t. newest_below (λ d. at d t) c.disks
    where
      at_test : (d : ℕ) (t : Bool) → members_in c b other h d ≡ t → (if t then if_passes (is_status_of other) (new.status d) else None) ≡ (if t then if_passes (is_status_of other) (c.status d) else None)
      at_test d false is = refl
      at_test d true is = ⊎_elim
          (λ same. ap (if_passes (is_status_of other)) same)
          (λ (put : IsTrue (targets d) × (new.status d ≡ Some next)). absurd (apart (one_group (c.descriptor d) other id (parts_of c b other h d is).1 (showing d put.0))))
          (change.own d)

      at : (d : ℕ) → (if members_in c b other h d then if_passes (is_status_of other) (new.status d) else None) ≡ (if members_in c b other h d then if_passes (is_status_of other) (c.status d) else None)
      at d = at_test d (members_in c b other h d) refl

  found_by : (b : Disks) (other : ℕ) (h : Descriptor) → ReadsGroup c b other h → (status_by now b other h ≡ status_by c b other h) ⊎ ((status_by now b other h ≡ Some next) × Serves c facts other next)
  found_by b other h reading = ⊎_elim
      (λ (test : (other == id) ≡ true). let same : other ≡ id = eqb-true other id test in
      subst (λ (n : ℕ). (status_by now b n h ≡ status_by c b n h) ⊎ ((status_by now b n h ≡ Some next) × Serves c facts n next)) (sym same) (⊎_elim
      (λ (old_is : status_by now b id h ≡ status_by c b id h). inl old_is)
      (λ (next_is : status_by now b id h ≡ Some next). inr (next_is, serves))
      (old_or_next Status (is_status_of id) c.status new.status (members_in c b id h) next (eq-eqb next.value.id id own) either_own (λ d r shows its. later d r shows (eqb-true r.value.id id its)) c.disks)))
      (λ (test : (other == id) ≡ false). inl (of_other b other h (λ same. clash (other == id) (eq-eqb other id same) test)))
      (either (other == id))

  pub put_keeps : Kept new facts
  put_keeps = statuses_keep c new facts next (record {
    rest = change.rest;
    own = either_own;
    stamp = λ d r shows ids stamps. absurd (not-itself next.stamp (ap (λ (x : Stamp). stamp_lt x next.stamp) (sym stamps) ∙ later d r shows (ids ∙ own)));
    found = λ b other h reading. subst (λ (x : Contents). (status_by x b other h ≡ status_by c b other h) ⊎ ((status_by x b other h ≡ Some next) × Serves c facts other next) ⊎ HasNoVolume c other) (sym change.rest)
        (⊎_elim (λ same. inl same) (λ is. inr (inl is)) (found_by b other h reading));
  }) kept
