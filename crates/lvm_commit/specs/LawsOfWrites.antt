-- What the disks of a session hold once a record of it stands, and that it may be written.
use Rattle.std.specs.Prelude.{◌≡◌, ℕ, Bool, List, Ok, IsTrue}
use Rattle.lvm_num.specs.declared.record.Kind.TheVariants as kind
use Rattle.lvm_num.specs.declared.record.Stamp.{Stamp}
use Rattle.lvm_num.specs.declared.record.Framed.{Framed}
use Rattle.lvm_num.specs.declared.descriptor.Descriptor.{Descriptor}
use Rattle.lvm_num.specs.declared.status.Status.{Status}
use Rattle.lvm_num.specs.Disks.{Disks}
use Rattle.lvm_num.specs.DescriptorBytes.{descriptor_of}
use Rattle.lvm_num.specs.StatusBytes.{status_of}
use Rattle.lvm_num.specs.Record.{Frames}
use Rattle.lvm_num.specs.Votes.{CanWrite}
use Rattle.lvm_vol.specs.Facts.{Fact}
use Rattle.lvm_disk.specs.Device.{Image, IsWholeImage}
use Rattle.lvm_kept.specs.Contents.{contents_of}
use Rattle.lvm_kept.specs.Kept.{Kept}
use Rattle.lvm_kept.specs.Plans.{ChangesBy}
use Rattle.lvm_kept.specs.Torn.{RecordWrite, IsOfRecord, StandsOn, MayWriteAll}
use Rattle.lvm_rec.specs.declared.homes.Homes.{Homes}
use Rattle.lvm_rec.specs.Homes.{Flips}
use Rattle.lvm_write.specs.Written.{write_of}
use Rattle.lvm_steps.specs.Laws.{IsNoLater}
use Rattle.lvm_commit.specs.Committed.{next_stamp, IsAlike, MayMark, HoldsCommitted}
use Rattle.lvm_commit.specs.LawsOfVolumes.{VolumesServe, LeavesOthers}

-- ---- before it is written

-- A status under a stamp of the session that comes next may go to the members that aren't missing,
abbrev pub StatusMayGo : Type 0
StatusMayGo = (image : Image) (group : Descriptor) (status next : Status) (there : Disks) (stamp : Stamp) (homes : Homes) (framed : Framed)
    → IsWholeImage image → HoldsCommitted image group status there stamp homes → Frames kind.Status framed → status_of framed.content ≡ Ok next → IsNoLater (next_stamp stamp) framed.stamp
    → MayWriteAll Status status_of (write_of kind.Status framed there homes) next image

-- and so may a descriptor.
abbrev pub DescriptorMayGo : Type 0
DescriptorMayGo = (image : Image) (group next : Descriptor) (status : Status) (there : Disks) (stamp : Stamp) (homes : Homes) (framed : Framed)
    → IsWholeImage image → HoldsCommitted image group status there stamp homes → Frames kind.Descriptor framed → descriptor_of framed.content ≡ Ok next → IsNoLater (next_stamp stamp) framed.stamp
    → MayWriteAll Descriptor descriptor_of (write_of kind.Descriptor framed there homes) next image

-- ---- while it is written

-- Whatever of a status has landed that says the same of the group's volumes, the history is kept;
abbrev pub StatusWriteKeeps : Type 0
StatusWriteKeeps = (group : Descriptor) (status next : Status) (there : Disks) (stamp : Stamp) (homes : Homes) (framed : Framed) (old new : Image) (facts : List Fact)
    → IsWholeImage old → CanWrite group there → HoldsCommitted old group status there stamp homes → Frames kind.Status framed → status_of framed.content ≡ Ok next → next.id ≡ group.id → MayMark (contents_of old) group status next
    → IsNoLater (next_stamp stamp) framed.stamp → ChangesBy (IsOfRecord (write_of kind.Status framed there homes)) old new → Kept (contents_of old) facts → Kept (contents_of new) facts

-- and so it is of a descriptor that the history lets differ from the group by some volumes.
abbrev pub DescriptorWriteKeeps : Type 0
DescriptorWriteKeeps = (group next : Descriptor) (among : ℕ → Bool) (status : Status) (there : Disks) (stamp : Stamp) (homes : Homes) (framed : Framed) (old new : Image) (facts : List Fact)
    → IsWholeImage old → HoldsCommitted old group status there stamp homes → Frames kind.Descriptor framed → descriptor_of framed.content ≡ Ok next → VolumesServe (contents_of old) facts group among next
    → IsNoLater (next_stamp stamp) framed.stamp → ChangesBy (IsOfRecord (write_of kind.Descriptor framed there homes)) old new → Kept (contents_of old) facts → Kept (contents_of new) facts

-- ---- once it stands

-- All of the record stands on some of its targets, whose next record of the kind goes to the other slot; nothing else was written.
pub record StandsWritten (w : RecordWrite) (written : Disks) (homes after : Homes) (old new : Image) : Type 0 where
  pub changes : ChangesBy (IsOfRecord w) old new
  pub targets : (d : ℕ) → IsTrue (written d) → IsTrue (w.targets d)
  pub stands : (d : ℕ) → IsTrue (written d) → StandsOn w new d
  pub flips : Flips w.kind written homes after

-- A status that stands is the committed one, and the members on which it doesn't are missing;
abbrev pub StatusIsHeld : Type 0
StatusIsHeld = (group : Descriptor) (status next : Status) (there written : Disks) (stamp : Stamp) (homes after : Homes) (framed : Framed) (old new : Image)
    → IsWholeImage old → HoldsCommitted old group status there stamp homes → Frames kind.Status framed → status_of framed.content ≡ Ok next → next.id ≡ group.id → IsNoLater (next_stamp stamp) framed.stamp
    → StandsWritten (write_of kind.Status framed there homes) written homes after old new → HoldsCommitted new group next written framed.stamp after

-- so it is of a descriptor of the group that differs in its volumes alone, where the members on which it stands have votes enough to write.
abbrev pub DescriptorIsHeld : Type 0
DescriptorIsHeld = (group next : Descriptor) (status : Status) (there written : Disks) (stamp : Stamp) (homes after : Homes) (framed : Framed) (old new : Image)
    → IsWholeImage old → HoldsCommitted old group status there stamp homes → Frames kind.Descriptor framed → descriptor_of framed.content ≡ Ok next → IsAlike next group → IsNoLater (next_stamp stamp) framed.stamp
    → StandsWritten (write_of kind.Descriptor framed there homes) written homes after old new → CanWrite next written → HoldsCommitted new next status written framed.stamp after

-- Whatever of the one or the other has landed, other groups are left as they were found.
abbrev pub StatusWriteLeavesOthers : Type 0
StatusWriteLeavesOthers = (group : Descriptor) (status next : Status) (there : Disks) (stamp : Stamp) (homes : Homes) (framed : Framed) (old new : Image)
    → IsWholeImage old → HoldsCommitted old group status there stamp homes → Frames kind.Status framed → status_of framed.content ≡ Ok next → IsNoLater (next_stamp stamp) framed.stamp
    → ChangesBy (IsOfRecord (write_of kind.Status framed there homes)) old new → LeavesOthers (contents_of old) (contents_of new) group.id

abbrev pub DescriptorWriteLeavesOthers : Type 0
DescriptorWriteLeavesOthers = (group next : Descriptor) (status : Status) (there : Disks) (stamp : Stamp) (homes : Homes) (framed : Framed) (old new : Image)
    → IsWholeImage old → HoldsCommitted old group status there stamp homes → Frames kind.Descriptor framed → descriptor_of framed.content ≡ Ok next → next.id ≡ group.id → IsNoLater (next_stamp stamp) framed.stamp
    → ChangesBy (IsOfRecord (write_of kind.Descriptor framed there homes)) old new → LeavesOthers (contents_of old) (contents_of new) group.id
