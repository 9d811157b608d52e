-- Descriptors of one group, and disks on which one is found.
use Rattle.std.proofs.Common.{◌≡◌, ⊎_elim, ℕ, Bool, true, ◌&&◌, [], Option, None, Some, refl, sym, ap, subst, ◌∙◌, eq-eqb}
use Rattle.std.specs.Prelude.{IsTrue}
use Rattle.std.proofs.lemmas.Option.{same_Some}
use Rattle.std.proofs.lemmas.Bool.{eqb-true}
use Rattle.lvm_disk.specs.passed.Num.{Descriptor, Disks, is_member, all_disks, votes_in, is_enough_to_read, CanRead, Stamped}
use Rattle.lvm_disk.proofs.passed.Num.{is_one, is_last, more_have_more, more_is_enough, without_first}
use Rattle.lvm_kept.specs.Contents.{Contents}
use Rattle.lvm_kept.specs.Group.{passes, is_of, has_room, descriptor_among, is_voter, has_quorum, IsFound, members_in, IsAlike}
use Rattle.lvm_kept.specs.Committed.{SameVotes, OneFoundIsOnly, OneShownIsOne}
use Rattle.lvm_kept.proofs.CommittedLemmas.Finding.{offered, offers, is_offered, enough-too, finding_reads, finds_from}

-- ---- groups that differ in their volumes alone

pub same_id : (a b : Descriptor) → IsAlike a b → a.id ≡ b.id
same_id a b alike = ap (λ (g : Descriptor). g.id) alike

pub same_votes : (a b : Descriptor) → IsAlike a b → SameVotes a b
same_votes a b alike = record { members = ap (λ (g : Descriptor). g.pvs) alike; even = ap (λ (g : Descriptor). g.even) alike; quorum = ap (λ (g : Descriptor). g.quorum) alike }

pub same_room : (c : Contents) (d : ℕ) (a b : Descriptor) → IsAlike a b → has_room c d a ≡ has_room c d b
same_room c d a b alike = ap (λ (g : Descriptor). has_room c d g) alike

-- ---- what is found is shown

-- the newest of a set is one that a disk shows
pub shown_by : (c : Contents) (disks : Disks) (id : ℕ) (m : Stamped Descriptor) → descriptor_among c disks id ≡ Some m → (d : ℕ) × (c.descriptor d ≡ Some m) × (m.value.id ≡ id)
unfolding descriptor_among
shown_by c disks id m found =
    let one = is_one Descriptor (offered (is_of id) c.descriptor disks) c.disks m found in
    let is = is_offered (is_of id) c.descriptor disks one.0 m one.2 in
    (one.0, is.0, eqb-true m.value.id id is.1)

pub one_is_only : OneFoundIsOnly
one_is_only c g one is other k found = one other g.id k g found is

pub one_shown_is_one : OneShownIsOne
one_shown_is_one c one v w g h of_v of_w =
    let a = shown_by c of_v.0 v of_v.1.newest of_v.1.found in
    let b = shown_by c of_w.0 w of_w.1.newest of_w.1.found in
    sym a.2 ∙ one a.0 b.0 of_v.1.newest of_w.1.newest a.1 b.1 ∙ b.2
