-- A disk joins a group as its last member: what the disks show while both records are written, and once they stand.
use Rattle.std.specs.Prelude.{◌≡◌, ◌⊎◌, ℕ, true, false, ◌||◌, ◌==◌, List, [], ◌∷◌, ◌++◌, Some, None, IsTrue}
use Rattle.lvm_num.specs.declared.descriptor.PvRow.{PvRow}
use Rattle.lvm_num.specs.declared.descriptor.Descriptor.{Descriptor}
use Rattle.lvm_num.specs.declared.status.Status.{Status}
use Rattle.lvm_num.specs.Descriptor.{IsValid, is_member}
use Rattle.lvm_num.specs.Disks.{Disks}
use Rattle.lvm_num.specs.Record.{Stamped, stamp_lt}
use Rattle.lvm_num.specs.Votes.{CanWrite}
use Rattle.lvm_vol.specs.Facts.{Fact}
use Rattle.lvm_kept.specs.Contents.{Contents}
use Rattle.lvm_kept.specs.Group.{passes, is_of, has_room}
use Rattle.lvm_kept.specs.Committed.{IsWithinDisks}
use Rattle.lvm_kept.specs.Kept.{Kept}
use Rattle.lvm_status.specs.Rerowed.{IsRerowed}
use Rattle.lvm_commit.specs.Committed.{ShowsCommitted}
use Rattle.lvm_commit.specs.LawsOfFinding.{FindsNoMore}
use Rattle.lvm_commit.specs.LawsOfVolumes.{LeavesOthers}
use Rattle.lvm_change_votes.specs.Meeting.{IsOneMore}
use Rattle.lvm_change_laws.specs.Turning.{FindsTwo}

-- ---- when it may

-- the disk and those of a set
abbrev pub with_disk : ℕ → Disks → Disks
with_disk disk set d = (d == disk) || set d

-- A group takes in a member, which was none: both descriptors are valid, and the members that aren't missing have votes enough to write by each, by the next one with the one
-- that joins.
pub record TakesIn (group next : Descriptor) (row : PvRow) (there : Disks) : Type 0 where
  pub valid : IsValid group
  pub valid_next : IsValid next
  pub apart : is_member group row.disk ≡ false
  pub is : next ≡ record group { pvs = group.pvs ++ row ∷ []; even = next.even }
  pub more : IsOneMore group next
  pub enough : CanWrite group there
  pub enough_too : CanWrite next (with_disk row.disk there)

-- The disks let this status and this descriptor be written for it: they show the group as committed, the disk that joins shows no other group and has the sectors that it
-- needs, the status says in the rows of the next descriptor what the committed one does, and no record of the group is as late as these two.
pub record LetsJoin (c : Contents) (group next : Descriptor) (row : PvRow) (status : Status) (there : Disks) (stated : Stamped Status) (described : Stamped Descriptor) : Type 0 where
  pub takes : TakesIn group next row there
  pub shows : ShowsCommitted c group status there
  pub free : (c.descriptor row.disk ≡ None) ⊎ IsTrue (passes (is_of group.id) (c.descriptor row.disk))
  pub room : IsTrue (has_room c row.disk next)
  pub value : described.value ≡ next
  pub told : IsRerowed next status stated.value
  pub statuses : (d : ℕ) (r : Stamped Status) → c.status d ≡ Some r → r.value.id ≡ group.id → stamp_lt r.stamp stated.stamp ≡ true
  pub descriptors : (d : ℕ) (r : Stamped Descriptor) → c.descriptor d ≡ Some r → r.value.id ≡ group.id → stamp_lt r.stamp described.stamp ≡ true

-- ---- while they are written

-- Some of these disks have the status by now, and some the descriptor; the disk that joins shows that before the others.
pub record IsJoining (old new : Contents) (disk : ℕ) (there : Disks) (stated : Stamped Status) (described : Stamped Descriptor) : Type 0 where
  pub statuses : (d : ℕ) → (new.status d ≡ old.status d) ⊎ (IsTrue (with_disk disk there d) × (new.status d ≡ Some stated))
  pub descriptors : (d : ℕ) → (new.descriptor d ≡ old.descriptor d) ⊎ (IsTrue (with_disk disk there d) × (new.descriptor d ≡ Some described))
  pub first : (d : ℕ) → new.descriptor d ≡ Some described → new.descriptor disk ≡ Some described
  pub rest : new ≡ record old { status = new.status; descriptor = new.descriptor }

-- Then what was kept is kept, nothing of the group is found but the two, and of other groups what was found.
abbrev pub JoiningKeeps : Type 0
JoiningKeeps = (old new : Contents) (facts : List Fact) (group next : Descriptor) (row : PvRow) (status : Status) (there : Disks) (stated : Stamped Status) (described : Stamped Descriptor)
    → IsWithinDisks old → IsWithinDisks new → LetsJoin old group next row status there stated described → IsJoining old new row.disk there stated described → Kept old facts
    → Kept new facts × FindsTwo new group next × LeavesOthers old new group.id

-- And whatever is found was found before, or is the next descriptor.
abbrev pub JoiningFinds : Type 0
JoiningFinds = (old new : Contents) (group next : Descriptor) (row : PvRow) (status : Status) (there : Disks) (stated : Stamped Status) (described : Stamped Descriptor)
    → IsWithinDisks old → IsWithinDisks new → LetsJoin old group next row status there stated described → IsJoining old new row.disk there stated described → FindsNoMore next old new

-- ---- once they stand

-- Both stand on the disk that joins and on some others, which have votes enough to write by both descriptors.
pub record HasJoined (new : Contents) (group next : Descriptor) (disk : ℕ) (there written : Disks) (stated : Stamped Status) (described : Stamped Descriptor) : Type 0 where
  pub joins : IsTrue (written disk)
  pub among : (d : ℕ) → IsTrue (written d) → IsTrue (with_disk disk there d)
  pub states : (d : ℕ) → IsTrue (written d) → new.status d ≡ Some stated
  pub describes : (d : ℕ) → IsTrue (written d) → new.descriptor d ≡ Some described
  pub enough : CanWrite group written
  pub enough_too : CanWrite next written

-- Then the group with the member more is the committed one.
abbrev pub JoiningIsCommitted : Type 0
JoiningIsCommitted = (old new : Contents) (group next : Descriptor) (row : PvRow) (status : Status) (there written : Disks) (stated : Stamped Status) (described : Stamped Descriptor)
    → IsWithinDisks old → IsWithinDisks new → LetsJoin old group next row status there stated described → IsJoining old new row.disk there stated described
    → HasJoined new group next row.disk there written stated described → ShowsCommitted new next stated.value written
