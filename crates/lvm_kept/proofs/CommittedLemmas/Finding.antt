-- What quorums find of a record that some disks have.
use Rattle.std.proofs.Common.{◌≡◌, ◌⊎◌, inl, inr, ⊎_elim, ℕ, ◌*◌, ◌<◌, Bool, true, false, ◌&&◌, List, Option, Some, None, refl, sym, ap, subst, ◌∙◌, arith}
use Rattle.std.specs.Prelude.{IsTrue, if◌then◌else◌, nat_lt, nat_le, sum_by, Result}
use Rattle.std.proofs.lemmas.Option.{same_Some}
use Rattle.std.proofs.lemmas.Bool.{ltb-true}
use Rattle.std.proofs.lemmas.Bool.Decides.{nat_tests}
use Rattle.lvm_disk.specs.passed.Num.{Stamp, Kind, PvRow, Descriptor, Status, Disks, data_start, descriptor_of, status_of, votes_by, votes_in, all_disks, is_enough_to_read, CanRead, Stamped, stamp_lt, newest_below}
use Rattle.lvm_disk.proofs.passed.Num.{read_meets_write, read_meets_read, is_one, is_last, first_holds, let_through, passed_if}
use Rattle.lvm_rec.specs.Slots.{newest_on}
use Rattle.lvm_disk.specs.Device.{Image}
use Rattle.lvm_kept.specs.Contents.{has_records, newest_at, descriptor_on, status_on, Contents}
use Rattle.lvm_kept.specs.Group.{if_passes, passes, is_of, is_status_of, has_room, descriptor_among, is_voter, has_quorum, status_among, Finds, members_in, FindingReads}
use Rattle.lvm_kept.specs.Committed.{SameVotes, StandsOnSet, ImagesAreWithin, QuorumMeetsWriters, QuorumsMeet, QuorumFindsStatus, QuorumFindsDescriptor, NextIsWritten, NextIsCommitted}

-- ---- records behind tests

kept_is : {X : Type 0} (test : X → Bool) (o : Option (Stamped X)) (r : Stamped X) → if_passes test o ≡ Some r → (o ≡ Some r) × (test r.value ≡ true)
kept_is test None r e = absurd cc
kept_is test (Some x) r e =
    let p = passed_if (test x.value) (Some x) r e in
    let same : x ≡ r = cc in
    (p.1, subst (λ (y : _). test y.value ≡ true) same p.0)

unwrap_or_else : {X : Type 0} → X → Option X → X
unwrap_or_else x None = x
unwrap_or_else x (Some y) = y

-- what a disk of a set offers, to those who look for records that pass
abbrev pub offered : {X : Type 0} → (X → Bool) → (ℕ → Option (Stamped X)) → Disks → ℕ → Option (Stamped X)
offered of on set d = if set d then if_passes of (on d) else None

pub offers : {X : Type 0} (of : X → Bool) (on : ℕ → Option (Stamped X)) (set : Disks) (d : ℕ) (r : Stamped X) → IsTrue (set d) → on d ≡ Some r → IsTrue (of r.value) → offered of on set d ≡ Some r
offers of on set d r in_set is own = let_through (set d) (if_passes of (on d)) in_set ∙ ap (if_passes of) is ∙ let_through (of r.value) (Some r) own

pub is_offered : {X : Type 0} (of : X → Bool) (on : ℕ → Option (Stamped X)) (set : Disks) (d : ℕ) (r : Stamped X) → offered of on set d ≡ Some r → (on d ≡ Some r) × IsTrue (of r.value)
is_offered of on set d r e = kept_is of (on d) r (passed_if (set d) (if_passes of (on d)) r e).1

-- ---- stamps

pub earlier-still : (a b c : Stamp) → stamp_lt a b ≡ true → stamp_lt b c ≡ true → stamp_lt a c ≡ true
earlier-still a b c h k = grind (arith, nat_tests)

pub no-later : (a b : Stamp) → stamp_lt a b ≡ true → stamp_lt a b ≡ false → ⊥
no-later a b h k = absurd cc

-- ---- a record that stands

-- The newest among disks of which one is in the set is one of the two.
pub newest_among :
    (X : Type 0) (of : X → Bool) (on : ℕ → Option (Stamped X)) (looked set : Disks) (n : ℕ) (now next : Stamped X)
    → StandsOnSet of on set now next → (d : ℕ) → IsTrue (looked d) → IsTrue (set d) → ((d : ℕ) (r : Stamped X) → on d ≡ Some r → d < n)
    → (newest_below (offered of on looked) n ≡ Some now) ⊎ (newest_below (offered of on looked) n ≡ Some next)
newest_among X of on looked set n now next stands d looks in_set within = ⊎_elim
    (λ (is : on d ≡ Some now). by_one now d looks is stands.own (λ r low. low))
    (λ (is : on d ≡ Some next). by_one next d looks is stands.next_own (λ r low. ⊎_elim
    (λ (e : next ≡ now). ap (λ (x : Stamped X). stamp_lt r x.stamp) e ∙ low)
    (λ (e : stamp_lt now.stamp next.stamp ≡ true). earlier-still r now.stamp next.stamp low e)
    stands.later))
    (stands.have d in_set)
  where
    one_of : (one : Stamped X) → ((r : Stamp) → stamp_lt r now.stamp ≡ true → stamp_lt r one.stamp ≡ true) → (r : Stamped X) → newest_below (offered of on looked) n ≡ Some r → stamp_lt r.stamp one.stamp ≡ false
        → (stamp_lt r.stamp now.stamp ≡ true) ⊎ (r ≡ now) ⊎ (r ≡ next) → (newest_below (offered of on looked) n ≡ Some now) ⊎ (newest_below (offered of on looked) n ≡ Some next)
    one_of one before r is last (inl older) = absurd (no-later r.stamp one.stamp (before r.stamp older) last)
    one_of one before r is last (inr (inl same)) = inl (is ∙ ap (λ (x : Stamped X). Some x) same)
    one_of one before r is last (inr (inr later)) = inr (is ∙ ap (λ (x : Stamped X). Some x) later)

    -- a disk has one that all earlier ones are before
    by_one : (one : Stamped X) (d : ℕ) → IsTrue (looked d) → on d ≡ Some one → IsTrue (of one.value) → ((r : Stamp) → stamp_lt r now.stamp ≡ true → stamp_lt r one.stamp ≡ true)
        → (newest_below (offered of on looked) n ≡ Some now) ⊎ (newest_below (offered of on looked) n ≡ Some next)
    by_one one d there is own before =
        let last = is_last X (offered of on looked) n d one (within d one is) (offers of on looked d one there is own) in
        let first = is_one X (offered of on looked) n last.0 last.1 in
        let from = is_offered of on looked first.0 last.0 first.2 in
        one_of one before last.0 last.1 last.2 (stands.newest first.0 last.0 from.0 from.1)

pub next_is_written : (X : Type 0) → NextIsWritten X
next_is_written X of old new set targets now next stands change own later = record {
  own = stands.own;
  next_own = own;
  later = inr later;
  have = λ d i. ⊎_elim (λ same. inl (same ∙ ⊎_elim (λ h. h) (λ h. h) (stands.have d i))) (λ is. inr is.1) (change d);
  newest = λ d r is its. ⊎_elim
      (λ same. ⊎_elim (λ low. inl low) (λ h. inr (inl (⊎_elim (λ e. e) (λ e. e) h))) (stands.newest d r (sym same ∙ is) its))
      (λ (e : IsTrue (targets d) × (new d ≡ Some next)). inr (inr (same_Some r next (sym is ∙ e.1))))
      (change d);
}

pub next_is_committed : (X : Type 0) → NextIsCommitted X
next_is_committed X of on set reached now next stands later all = record {
  own = stands.next_own;
  next_own = stands.next_own;
  later = inl refl;
  have = λ d i. inl (all d i);
  newest = λ d r is its. ⊎_elim
      (λ low. inl (earlier-still r.stamp now.stamp next.stamp low later))
      (⊎_elim (λ (e : r ≡ now). inl (ap (λ (x : Stamped X). stamp_lt x.stamp next.stamp) e ∙ later)) (λ e. inr (inl e)))
      (stands.newest d r is its);
}

-- ---- quorums

-- votes enough by the one are enough by the other
pub enough-too : (a b : Descriptor) (set : Disks) → SameVotes a b → is_enough_to_read a (votes_in a set) ≡ is_enough_to_read b (votes_in b set)
enough-too a b set same =
    let pvs : a.pvs ≡ b.pvs = same.members in
    let even : a.even ≡ b.even = same.even in
    let quorum : a.quorum ≡ b.quorum = same.quorum in
    λ t. (let votes : Disks → ℕ = λ (s : Disks). sum_by (λ (row : PvRow). if s row.disk then votes_by (even t) (pvs t) row.disk else 0) (pvs t) in
    if quorum t then nat_lt (votes all_disks) (2 * votes set) else nat_le (votes all_disks) (votes set))

-- a quorum's voters can read, by the descriptor that it finds
pub can_read : (c : Contents) (disks : Disks) (id : ℕ) (g : Descriptor) → Finds c disks id g → CanRead g (is_voter c disks id)
unfolding has_quorum
can_read c disks id g f =
    let by_newest : IsTrue (passes (λ (h : Descriptor). is_enough_to_read h (votes_in h (is_voter c disks id))) (Some f.newest)) =
    subst (λ (o : Option (Stamped Descriptor)). IsTrue (passes (λ (h : Descriptor). is_enough_to_read h (votes_in h (is_voter c disks id))) o)) f.found f.quorum in
    subst (λ (h : Descriptor). CanRead h (is_voter c disks id)) f.is by_newest

pub can_read_by : (c : Contents) (disks : Disks) (id : ℕ) (g group : Descriptor) → Finds c disks id g → SameVotes g group → CanRead group (is_voter c disks id)
can_read_by c disks id g group f same = sym (enough-too g group (is_voter c disks id) same) ∙ can_read c disks id g f

-- a voter is among the disks
voter_in : (c : Contents) (disks : Disks) (id d : ℕ) → IsTrue (is_voter c disks id d) → IsTrue (disks d)
unfolding is_voter
voter_in c disks id d v = first_holds (disks d) (passes (is_of id) (c.descriptor d))
    (first_holds (disks d && passes (is_of id) (c.descriptor d)) (passes (has_room c d) (descriptor_among c disks id)) v)

pub finds_status : QuorumFindsStatus
unfolding status_among
finds_status c id set now next within stands disks g f meets =
    newest_among Status (is_status_of id) c.status (is_voter c disks id) set c.disks now next stands meets.0 meets.1 meets.2 within.statuses

pub finds_descriptor : QuorumFindsDescriptor
unfolding descriptor_among
finds_descriptor c id set now next within stands disks g f meets = ⊎_elim
    (λ e. inl (sym f.is ∙ ap (λ (r : Stamped Descriptor). r.value) (same_Some f.newest now (sym f.found ∙ e))))
    (λ e. inr (sym f.is ∙ ap (λ (r : Stamped Descriptor). r.value) (same_Some f.newest next (sym f.found ∙ e))))
    (newest_among Descriptor (is_of id) c.descriptor disks set c.disks now next stands meets.0 (voter_in c disks id meets.0 meets.1) meets.2 within.descriptors)

pub meets_writers : QuorumMeetsWriters
meets_writers c disks id g group set f same votes =
    let both = read_meets_write group (is_voter c disks id) set (can_read_by c disks id g group f same) votes in
    (both.0, both.2, both.3)

pub quorums_meet : QuorumsMeet
quorums_meet c a b id g h f k same some =
    let back : SameVotes h g = record { members = sym same.members; even = sym same.even; quorum = sym same.quorum } in
    let both = read_meets_read g (is_voter c a id) (is_voter c b id) some (can_read c a id g f) (can_read_by c b id h g k back) in
    (both.0, both.2, both.3)

-- by the newest descriptor of a set its voters are the members
voters_by : (c : Contents) (disks : Disks) (id : ℕ) (m : Stamped Descriptor) → descriptor_among c disks id ≡ Some m → (d : ℕ) → is_voter c disks id d ≡ members_in c disks id m.value d
unfolding is_voter
voters_by c disks id m found d = ap (λ (o : Option (Stamped Descriptor)). disks d && passes (is_of id) (c.descriptor d) && passes (has_room c d) o) found

voters_are : (c : Contents) (disks : Disks) (id : ℕ) (g : Descriptor) → Finds c disks id g → (d : ℕ) → is_voter c disks id d ≡ members_in c disks id g d
voters_are c disks id g f d = voters_by c disks id f.newest f.found d ∙ ap (λ (h : Descriptor). members_in c disks id h d) f.is

-- a set whose members can read by its newest descriptor finds it
pub finds_from : (c : Contents) (disks : Disks) (id : ℕ) (m : Stamped Descriptor) → descriptor_among c disks id ≡ Some m → CanRead m.value (members_in c disks id m.value) → Finds c disks id m.value
unfolding has_quorum
finds_from c disks id m found enough =
    let each : (d : ℕ) → is_voter c disks id d ≡ members_in c disks id m.value d = voters_by c disks id m found in
    let voters : is_voter c disks id ≡ members_in c disks id m.value = λ t d. each d t in
    let by_voters : CanRead m.value (is_voter c disks id) = subst (λ (v : Disks). CanRead m.value v) (sym voters) enough in
    record {
      quorum = subst (λ (o : Option (Stamped Descriptor)). IsTrue (passes (λ (h : Descriptor). is_enough_to_read h (votes_in h (is_voter c disks id))) o)) (sym found) by_voters;
      newest = m;
      found = found;
      is = refl;
    }

pub finding_reads : FindingReads
unfolding status_among
finding_reads c disks id g f =
    let each : (d : ℕ) → is_voter c disks id d ≡ members_in c disks id g d = voters_are c disks id g f in
    let voters : is_voter c disks id ≡ members_in c disks id g = λ t d. each d t in
    record {
      reads = record { found = (disks, f); enough = subst (λ (v : Disks). CanRead g v) voters (can_read c disks id g f) };
      voters = voters;
      status = λ t. newest_below (λ d. if each d t then if_passes (is_status_of id) (c.status d) else None) c.disks;
    }

-- ---- images

here : {X : Type 0} (content_of : List ℕ → Result X ℕ) (kind : Kind) (image : Image) (d : ℕ) (r : Stamped X) → newest_at content_of kind image d ≡ Some r → d < image.disks
here content_of kind image d r e = ltb-true d image.disks (first_holds (nat_lt d image.disks) (nat_le data_start (image.size d)) (passed_if (has_records image d) (newest_on content_of kind (image.sector d)) r e).0)

pub images_within : ImagesAreWithin
unfolding descriptor_on status_on
images_within image = record { descriptors = λ d r e. here descriptor_of _ image d r e; statuses = λ d r e. here status_of _ image d r e }
