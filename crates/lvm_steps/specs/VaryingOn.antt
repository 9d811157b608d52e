-- The varying on of a group whose volumes have no consistency records to be read: what it keeps at each moment of each of its writes.
use Rattle.std.specs.Prelude.{◌≡◌, ◌⊎◌, ℕ, ◌≤◌, ◌++◌, ◌∷◌, true, List, [], length, Some, IsTrue, IsFalse}
use Rattle.lvm_num.specs.declared.record.Kind.TheVariants as kind
use Rattle.lvm_num.specs.declared.place.Pp.{Pp}
use Rattle.lvm_num.specs.declared.descriptor.Mode.TheVariants.{Active, Passive}
use Rattle.lvm_num.specs.declared.descriptor.LvRow.{LvRow}
use Rattle.lvm_num.specs.declared.descriptor.Descriptor.{Descriptor}
use Rattle.lvm_num.specs.declared.status.Status.{Status}
use Rattle.lvm_num.specs.Buffer.{Sector}
use Rattle.lvm_num.specs.Disks.{Disks}
use Rattle.lvm_num.specs.Descriptor.{copies_of}
use Rattle.lvm_num.specs.DescriptorBytes.{descriptor_of}
use Rattle.lvm_num.specs.StatusBytes.{status_of}
use Rattle.lvm_num.specs.Record.{Stamped, stamp_lt}
use Rattle.lvm_num.specs.Status.{calls_stale, calls_dirty}
use Rattle.lvm_vol.specs.Facts.{Fact, On}
use Rattle.lvm_vol.specs.Legal.{IsLater}
use Rattle.lvm_kept.specs.passed.Disk.{Device, image_of, DeviceStep, Path}
use Rattle.lvm_kept.specs.Contents.{Contents, contents_of}
use Rattle.lvm_kept.specs.Group.{passes, is_of, is_voter, status_among, Finds, IsFound, members_in, fresh, IsOneOf, IsSome}
use Rattle.lvm_kept.specs.Committed.{IsWithinDisks}
use Rattle.lvm_kept.specs.Kept.{Kept}
use Rattle.lvm_kept.specs.Moments.{Moment}
use Rattle.lvm_kept.specs.Torn.{RecordWrite, MayWriteAll, written as as_read, StatusesChange, DescriptorsChange, Alone, Note}
use Rattle.lvm_steps.specs.Moments.{StaysKept, Keeps}
use Rattle.lvm_steps.specs.Making.{IsWritten}

-- each of these disks shows a descriptor of the group
abbrev pub AreShowing : Contents → ℕ → Disks → Type 0
AreShowing c id targets = (d : ℕ) → IsTrue (targets d) → IsTrue (passes (is_of id) (c.descriptor d))

-- ---- the descriptor

-- What lets the group's descriptor have a new stamp.
pub record MayRestamp (c : Contents) (group : Descriptor) (targets : Disks) (next : Stamped Descriptor) : Type 0 where
  pub value : next.value ≡ group
  -- by the choice: the disks that answered hold a quorum, whose newest descriptor this is, and it goes to their voters
  pub found : IsFound c group.id group
  pub showing : AreShowing c group.id targets
  -- by the clock: no disk shows a stamp from this moment on, also of those that don't answer
  pub later : (d : ℕ) (r : Stamped Descriptor) → c.descriptor d ≡ Some r → r.value.id ≡ group.id → stamp_lt r.stamp next.stamp ≡ true

-- Then it may be written to any of them.
abbrev pub RestampKeeps : Type 0
RestampKeeps = (group : Descriptor) (targets : Disks) (next : Stamped Descriptor) (old new : Contents) (facts : List Fact)
    → IsWithinDisks old → MayRestamp old group targets next → DescriptorsChange targets next old new → Kept old facts → Kept new facts

-- The descriptor has been written to all members that answered: they find it, and no disk shows a later one.
pub record HasNewest (c : Contents) (group : Descriptor) (disks : Disks) (newest : Stamped Descriptor) : Type 0 where
  pub found : Finds c disks group.id group
  pub value : newest.value ≡ group
  pub have : (d : ℕ) → IsTrue (members_in c disks group.id group d) → c.descriptor d ≡ Some newest
  pub last : (d : ℕ) (r : Stamped Descriptor) → c.descriptor d ≡ Some r → r.value.id ≡ group.id → (stamp_lt r.stamp newest.stamp ≡ true) ⊎ (r ≡ newest)

-- From then on each quorum finds it.
abbrev pub OnlyNewestIsFound : Type 0
OnlyNewestIsFound = (c : Contents) (group : Descriptor) (disks : Disks) (newest : Stamped Descriptor) (facts : List Fact)
    → IsWithinDisks c → HasNewest c group disks newest → Kept c facts → (k : Descriptor) → IsFound c group.id k → k ≡ group

-- ---- the status

-- The next status, which has rows for the members alone, carries the marks on copies of the group and on its volumes in mode passive of the one that was
-- found, and no partition loses its last fresh copy by it: a further copy is stale only where it stands on a disk that isn't a voter, while another copy of
-- its logical partition is fresh on one that is. Of a volume in another mode a dirty mark says nothing.
pub record CarriesMarks (c : Contents) (group : Descriptor) (disks : Disks) (was next : Status) : Type 0 where
  pub stale : (row : LvRow) (lp : ℕ) (p : Pp) → IsOneOf group.lvs row → IsOneOf (copies_of row lp) p → IsTrue (calls_stale was p) → IsTrue (calls_stale next p)
  pub dirty : (row : LvRow) → IsOneOf group.lvs row → row.mode ≡ Passive → IsTrue (calls_dirty was row.number) → IsTrue (calls_dirty next row.number)
  pub only : (row : LvRow) (lp : ℕ) (p : Pp) → IsOneOf group.lvs row → IsOneOf (copies_of row lp) p → IsTrue (calls_stale next p)
      → IsTrue (calls_stale was p) ⊎ (IsFalse (is_voter c disks group.id p.disk) × IsSome (fresh c disks group.id row lp))

-- What lets such a status be written.
pub record MayRestate (c : Contents) (group : Descriptor) (disks targets : Disks) (newest : Stamped Descriptor) (was next : Stamped Status) : Type 0 where
  pub newest_is : HasNewest c group disks newest
  pub own : next.value.id ≡ group.id
  -- by the choice: the newest status of the voters, to whom the next one goes
  pub status : status_among c disks group.id ≡ Some was
  pub showing : AreShowing c group.id targets
  pub marks : CarriesMarks c group disks was.value next.value
  -- by the clock
  pub later : (d : ℕ) (r : Stamped Status) → c.status d ≡ Some r → r.value.id ≡ group.id → stamp_lt r.stamp next.stamp ≡ true

-- Then it may be.
abbrev pub RestateKeeps : Type 0
RestateKeeps = (group : Descriptor) (disks targets : Disks) (newest : Stamped Descriptor) (was next : Stamped Status) (old new : Contents) (facts : List Fact)
    → IsWithinDisks old → MayRestate old group disks targets newest was next → StatusesChange targets next old new → Kept old facts → Kept new facts

-- ---- the notes

-- no volume of the group is in mode active
abbrev pub HasNoActive : Descriptor → Type 0
HasNoActive group = (row : LvRow) → IsOneOf group.lvs row → row.mode ≡ Active → ⊥

-- Notes of some of these disks differ, and nothing else.
pub record NotesOf (targets : Disks) (old new : Contents) : Type 0 where
  pub own : (d : ℕ) → (new.note d ≡ old.note d) ⊎ IsTrue (targets d)
  pub rest : new ≡ record old { note = new.note }

-- Without active volumes notes of members that answered may be emptied.
abbrev pub ForgettingKeeps : Type 0
ForgettingKeeps = (group : Descriptor) (disks targets : Disks) (newest : Stamped Descriptor) (old new : Contents) (facts : List Fact)
    → IsWithinDisks old → HasNewest old group disks newest → HasNoActive group → AreShowing old group.id targets → NotesOf targets old new → Kept old facts → Kept new facts

-- ---- from the one to the next

-- Once each voter shows the new stamp, it is the newest:
abbrev pub RestampIsNewest : Type 0
RestampIsNewest = (group : Descriptor) (disks targets : Disks) (next : Stamped Descriptor) (old new : Contents)
    → IsWithinDisks old → 1 ≤ length group.pvs → Finds old disks group.id group → MayRestamp old group targets next → DescriptorsChange targets next old new
    → ((d : ℕ) → IsTrue (is_voter old disks group.id d) → new.descriptor d ≡ Some next) → HasNewest new group disks next

-- and stays so under other statuses and other notes.
abbrev pub NewestStaysNewest : Type 0
NewestStaysNewest = (group : Descriptor) (disks : Disks) (newest : Stamped Descriptor) (old new : Contents)
    → new ≡ record old { status = new.status; note = new.note } → HasNewest old group disks newest → HasNewest new group disks newest

-- ---- by the moments of the shelf

-- What was kept is kept at each moment while the descriptor is written,
abbrev pub DescriptorVariesOn : Type 0
DescriptorVariesOn = (group : Descriptor) (w : RecordWrite) (old new : Device) (written : IsWritten (Alone w) old new)
    → w.kind ≡ kind.Descriptor → MayWriteAll Descriptor descriptor_of w group (image_of old.sizes written.media)
    → MayRestamp (contents_of (image_of old.sizes written.media)) group w.targets (as_read w group) → Path DeviceStep (StaysKept old) old new

-- while the status is,
abbrev pub StatusVariesOn : Type 0
StatusVariesOn = (group : Descriptor) (disks : Disks) (newest : Stamped Descriptor) (was : Stamped Status) (w : RecordWrite) (status : Status) (old new : Device) (written : IsWritten (Alone w) old new)
    → w.kind ≡ kind.Status → MayWriteAll Status status_of w status (image_of old.sizes written.media)
    → MayRestate (contents_of (image_of old.sizes written.media)) group disks w.targets newest was (as_read w status) → Path DeviceStep (StaysKept old) old new

-- and while notes are emptied.
abbrev pub NotesVaryOn : Type 0
NotesVaryOn = (group : Descriptor) (disks : Disks) (newest : Stamped Descriptor) (targets : Disks) (sector : Sector) (old new : Device) (written : IsWritten (Note targets sector) old new)
    → HasNewest (contents_of (image_of old.sizes written.media)) group disks newest → HasNoActive group → AreShowing (contents_of (image_of old.sizes written.media)) group.id targets
    → Path DeviceStep (StaysKept old) old new

-- The writes of a varyon, one after the other, each from a still shelf: the descriptor, the status, the notes.
pub record VariesOn (group : Descriptor) (disks : Disks) (was : Stamped Status) (old new : Device) : Type 0 where
  pub described : Device
  pub stated : Device
  pub group_write : RecordWrite
  pub own_kind : group_write.kind ≡ kind.Descriptor
  pub describes : IsWritten (Alone group_write) old described
  pub may_describe : MayWriteAll Descriptor descriptor_of group_write group (image_of old.sizes describes.media)
  pub restamp : MayRestamp (contents_of (image_of old.sizes describes.media)) group group_write.targets (as_read group_write group)
  pub status : Status
  pub status_write : RecordWrite
  pub its_kind : status_write.kind ≡ kind.Status
  pub states : IsWritten (Alone status_write) described stated
  pub may_state : MayWriteAll Status status_of status_write status (image_of described.sizes states.media)
  pub restate : MayRestate (contents_of (image_of described.sizes states.media)) group disks status_write.targets (as_read group_write group) was (as_read status_write status)
  pub targets : Disks
  pub sector : Sector
  pub forgets : IsWritten (Note targets sector) stated new
  pub newest : HasNewest (contents_of (image_of stated.sizes forgets.media)) group disks (as_read group_write group)
  pub showing : AreShowing (contents_of (image_of stated.sizes forgets.media)) group.id targets
  pub quiet : HasNoActive group

-- At each moment of them and of the entry that the group is on the history is legal and each crash image kept.
abbrev pub GroupIsVariedOn : Type 0
GroupIsVariedOn = (run : ℕ) (first : Moment) (facts : List Fact) (moment : ℕ) (group : Descriptor) (disks : Disks) (was : Stamped Status) (old new : Device)
    → Keeps run first (record { device = old; facts = facts }) → VariesOn group disks was old new → run ≤ moment → IsLater facts moment
    → Keeps run first (record { device = new; facts = facts ++ On moment ∷ [] })
