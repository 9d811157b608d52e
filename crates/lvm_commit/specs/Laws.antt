-- What quorums find of a session's group, and what its next status and its next descriptor keep.
use Rattle.std.specs.Prelude.{◌≡◌, ℕ, true, List, Some, IsTrue}
use Rattle.lvm_num.specs.declared.record.Kind.TheVariants as kind
use Rattle.lvm_num.specs.declared.descriptor.Descriptor.{Descriptor}
use Rattle.lvm_num.specs.declared.status.Status.{Status}
use Rattle.lvm_num.specs.Disks.{Disks}
use Rattle.lvm_num.specs.StatusBytes.{status_of}
use Rattle.lvm_num.specs.Record.{Stamped, stamp_lt}
use Rattle.lvm_num.specs.Votes.{CanWrite}
use Rattle.lvm_vol.specs.Facts.{Fact}
use Rattle.lvm_disk.specs.Device.{Device, image_of}
use Rattle.lvm_disk.specs.Paths.{DeviceStep, Path}
use Rattle.lvm_kept.specs.Contents.{Contents, contents_of}
use Rattle.lvm_kept.specs.Group.{Finds, IsFound, status_by, ReadsGroup}
use Rattle.lvm_kept.specs.Committed.{IsWithinDisks}
use Rattle.lvm_kept.specs.Kept.{Kept}
use Rattle.lvm_kept.specs.Torn.{RecordWrite, MayWriteAll, written as as_read, StatusesChange, DescriptorsChange, Alone}
use Rattle.lvm_steps.specs.Moments.{StaysKept}
use Rattle.lvm_steps.specs.Making.{IsWritten}
use Rattle.lvm_commit.specs.Committed.{IsAlike, MayMark, ShowsCommitted}

-- ---- what is found

-- Whatever descriptor of the group a quorum finds is the committed one, also where the members that aren't missing are too few to read it,
abbrev pub OnlyCommittedIsFound : Type 0
OnlyCommittedIsFound = (c : Contents) (group : Descriptor) (status : Status) (there : Disks) (facts : List Fact)
    → IsWithinDisks c → CanWrite group there → ShowsCommitted c group status there → Kept c facts → (k : Descriptor) → IsFound c group.id k → k ≡ group

-- and whatever status is read of it is the committed one.
abbrev pub CommittedStatusIsRead : Type 0
CommittedStatusIsRead = (c : Contents) (group : Descriptor) (status : Status) (there : Disks) (facts : List Fact)
    → IsWithinDisks c → CanWrite group there → (shows : ShowsCommitted c group status there) → Kept c facts
    → (b : Disks) (k : Descriptor) → ReadsGroup c b group.id k → status_by c b group.id k ≡ Some shows.stands

-- ---- how a session begins

-- Where all that is shown of the group is this descriptor, as of a new one, nothing else is found. (Of one that is varied on `OnlyNewestIsFound` says so.)
abbrev pub ShownIsOnly : Type 0
ShownIsOnly = (c : Contents) (group : Descriptor) → ((d : ℕ) (r : Stamped Descriptor) → c.descriptor d ≡ Some r → r.value.id ≡ group.id → r.value ≡ group)
    → (disks : Disks) (k : Descriptor) → Finds c disks group.id k → k ≡ group

-- ---- the next status

-- each status of the group is earlier than this one
abbrev pub IsLaterStatus : Contents → Descriptor → Stamped Status → Type 0
IsLaterStatus c group next = (d : ℕ) (r : Stamped Status) → c.status d ≡ Some r → r.value.id ≡ group.id → stamp_lt r.stamp next.stamp ≡ true

-- What lets the next status of a session be written to members that aren't missing.
pub record MayFollow (c : Contents) (group : Descriptor) (status : Status) (there targets : Disks) (next : Stamped Status) : Type 0 where
  pub enough : CanWrite group there
  pub shows : ShowsCommitted c group status there
  pub showing : (d : ℕ) → IsTrue (targets d) → IsTrue (there d)
  pub own : next.value.id ≡ group.id
  -- of the group's volumes it says the same, or calls copies stale that others replace
  pub marks : MayMark c group status next.value
  -- by the stamps of the session, which rise
  pub later : IsLaterStatus c group next

-- Then it may be, and whatever of it has landed keeps the history.
abbrev pub StatusFollows : Type 0
StatusFollows = (group : Descriptor) (status : Status) (there targets : Disks) (next : Stamped Status) (old new : Contents) (facts : List Fact)
    → IsWithinDisks old → MayFollow old group status there targets next → StatusesChange targets next old new → Kept old facts → Kept new facts

-- So it is at each moment while it is written.
abbrev pub StatusGoesOn : Type 0
StatusGoesOn = (group : Descriptor) (status : Status) (there : Disks) (w : RecordWrite) (next : Status) (old new : Device) (written : IsWritten (Alone w) old new)
    → w.kind ≡ kind.Status → MayWriteAll Status status_of w next (image_of old.sizes written.media)
    → MayFollow (contents_of (image_of old.sizes written.media)) group status there w.targets (as_read w next) → Path DeviceStep (StaysKept old) old new

-- Once these members show it, it is the committed one, and the others are missing.
abbrev pub StatusIsCommitted : Type 0
StatusIsCommitted = (group : Descriptor) (status : Status) (there targets written : Disks) (next : Stamped Status) (old new : Contents)
    → ShowsCommitted old group status there → next.value.id ≡ group.id → IsLaterStatus old group next → StatusesChange targets next old new
    → ((d : ℕ) → IsTrue (written d) → IsTrue (there d)) → ((d : ℕ) → IsTrue (written d) → new.status d ≡ Some next)
    → ShowsCommitted new group next.value written

-- ---- the next descriptor

-- each descriptor of the group is earlier than this one
abbrev pub IsLaterDescriptor : Contents → Descriptor → Stamped Descriptor → Type 0
IsLaterDescriptor c group next = (d : ℕ) (r : Stamped Descriptor) → c.descriptor d ≡ Some r → r.value.id ≡ group.id → stamp_lt r.stamp next.stamp ≡ true

-- Once members with enough votes to write show the next descriptor, which differs in its volumes alone, it is the committed one, and the others are
-- missing.
abbrev pub DescriptorIsCommitted : Type 0
DescriptorIsCommitted = (group : Descriptor) (status : Status) (there targets written : Disks) (next : Stamped Descriptor) (old new : Contents)
    → IsWithinDisks old → ShowsCommitted old group status there → IsAlike next.value group → IsLaterDescriptor old group next → DescriptorsChange targets next old new
    → ((d : ℕ) → IsTrue (targets d) → IsTrue (there d)) → ((d : ℕ) → IsTrue (written d) → IsTrue (there d)) → ((d : ℕ) → IsTrue (written d) → new.descriptor d ≡ Some next)
    → CanWrite next.value written → ShowsCommitted new next.value status written
