-- The making of a group without volumes: what it keeps at each moment of each of its writes.
use Rattle.std.specs.Prelude.{◌≡◌, ℕ, ◌≤◌, ◌++◌, ◌∷◌, List, [], map, length, Some}
use Rattle.lvm_num.specs.declared.record.Stamp.{Stamp}
use Rattle.lvm_num.specs.declared.record.Kind.TheVariants as kind
use Rattle.lvm_num.specs.declared.descriptor.Descriptor.{Descriptor}
use Rattle.lvm_num.specs.declared.status.Status.{Status}
use Rattle.lvm_num.specs.Buffer.{Sector}
use Rattle.lvm_num.specs.Disks.{Disks}
use Rattle.lvm_num.specs.DescriptorBytes.{descriptor_of}
use Rattle.lvm_num.specs.StatusBytes.{status_of}
use Rattle.lvm_num.specs.Record.{Stamped}
use Rattle.lvm_vol.specs.declared.entry.Vol.TheVariants.{Disk}
use Rattle.lvm_vol.specs.Facts.{Fact, Removed, On}
use Rattle.lvm_vol.specs.Legal.{IsLater}
use Rattle.lvm_kept.specs.passed.Disk.{Media, Image, Flight, Device, image_of, MayLeave, DeviceStep, Path}
use Rattle.lvm_kept.specs.Contents.{Contents, contents_of}
use Rattle.lvm_kept.specs.Kept.{Kept}
use Rattle.lvm_kept.specs.Plans.{ChangesBy, IsUnderWay, IsPlanned}
use Rattle.lvm_kept.specs.Raw.{OnlyAdds}
use Rattle.lvm_kept.specs.Torn.{RecordWrite, MayWriteAll, StatusesChange, DescriptorsChange, Writing, Alone, Note, brings}
use Rattle.lvm_kept.specs.Moments.{Moment}
use Rattle.lvm_steps.specs.Moments.{StaysKept, Keeps}

-- ---- what lets a group be made

-- no disk shows a descriptor that names a volume
abbrev pub NamesNoVolume : Contents → Type 0
NamesNoVolume c = (d : ℕ) (r : Stamped Descriptor) → c.descriptor d ≡ Some r → r.value.lvs ≡ []

-- What the disks show lets this group be made, on whichever of them.
pub record MayMake (c : Contents) (group : Descriptor) : Type 0 where
  -- by the survey: `mkvg` is refused where a disk shows a descriptor or, with force, one that names a volume
  pub empty : NamesNoVolume c
  -- by the survey where none shows a descriptor; with force a premise, which the clock meets only where no id that is shown is at or after the moment that
  -- names the new group
  pub new_id : (d : ℕ) (r : Stamped Descriptor) → c.descriptor d ≡ Some r → r.value.id ≡ group.id → ⊥
  -- by the way the descriptor is built
  pub no_volume : group.lvs ≡ []
  pub a_member : 1 ≤ length group.pvs

-- no disk shows a status of the group under the stamp: by the clock, as each stamp that is shown has an earlier epoch
abbrev pub IsUnused : Contents → ℕ → Stamp → Type 0
IsUnused c id stamp = (d : ℕ) (r : Stamped Status) → c.status d ≡ Some r → r.value.id ≡ id → r.stamp ≡ stamp → ⊥

-- ---- by what the disks show

-- Where a group may be made, other consistency records keep the history,
abbrev pub NotesMayChange : Type 0
NotesMayChange = (group : Descriptor) (old new : Contents) (facts : List Fact) → MayMake old group → new ≡ record old { note = new.note } → Kept old facts → Kept new facts

-- and so does a status under a stamp of its own on any of the disks;
abbrev pub StatusesMayChange : Type 0
StatusesMayChange = (group : Descriptor) (targets : Disks) (next : Stamped Status) (old new : Contents) (facts : List Fact)
    → MayMake old group → IsUnused old next.value.id next.stamp → StatusesChange targets next old new → Kept old facts → Kept new facts

-- and the group's descriptor on any of them, over the descriptors of groups without volumes.
abbrev pub DescriptorsMayChange : Type 0
DescriptorsMayChange = (group : Descriptor) (targets : Disks) (next : Stamped Descriptor) (old new : Contents) (facts : List Fact)
    → MayMake old group → next.value ≡ group → DescriptorsChange targets next old new → Kept old facts → Kept new facts

-- ---- by the moments of the shelf

-- each crash image of the shelf lets the group be made
abbrev pub MayMakeOn : Device → Descriptor → Type 0
MayMakeOn device group = (image : Image) → MayLeave device image → MayMake (contents_of image) group

-- each crash image of the shelf is this one but for what is being written
abbrev pub LeavesOnly : Writing → Image → Device → Type 0
LeavesOnly x start device = (image : Image) → MayLeave device image → ChangesBy (brings x) start image

-- From a still shelf to another one step by step, and nothing but this was being written.
pub record IsWritten (x : Writing) (old new : Device) : Type 0 where
  pub media : Media
  pub told : old.media ≡ Some media
  pub still : old.flights ≡ []
  pub path : Path DeviceStep (LeavesOnly x (image_of old.sizes media)) old new

-- So it is of a still shelf, of one on which only this is under way, and after a further transfer of it.
abbrev pub StillLeavesOnly : Type 0
StillLeavesOnly = (x : Writing) (device : Device) (media : Media) → device.media ≡ Some media → device.flights ≡ [] → LeavesOnly x (image_of device.sizes media) device

abbrev pub UnderWayLeavesOnly : Type 0
UnderWayLeavesOnly = (x : Writing) (start : Image) (device : Device) → IsUnderWay (brings x) start device → LeavesOnly x start device

abbrev pub TransferLeavesOnly : Type 0
TransferLeavesOnly = (x : Writing) (start : Image) (f : Flight) (old new : Device) → IsPlanned (brings x) f → OnlyAdds f old new → LeavesOnly x start old → LeavesOnly x start new

-- From the one shelf to the other step by step, at each moment what was kept is kept, and at the end the group may still be made.
pub record MakingGoesOn (group : Descriptor) (old new : Device) : Type 0 where
  pub path : Path DeviceStep (StaysKept old) old new
  pub may : MayMakeOn new group

-- So it is while the notes of disks are written,
abbrev pub NotesGoOn : Type 0
NotesGoOn = (group : Descriptor) (targets : Disks) (sector : Sector) (old new : Device) → IsWritten (Note targets sector) old new → MayMakeOn old group → MakingGoesOn group old new

-- and while a status is,
abbrev pub StatusGoesOn : Type 0
StatusGoesOn = (group : Descriptor) (w : RecordWrite) (status : Status) (old new : Device) (written : IsWritten (Alone w) old new)
    → w.kind ≡ kind.Status → MayWriteAll Status status_of w status (image_of old.sizes written.media)
    → ((image : Image) → MayLeave old image → IsUnused (contents_of image) status.id w.framed.stamp) → MayMakeOn old group → MakingGoesOn group old new

-- and what was kept is kept while the group's descriptor is.
abbrev pub DescriptorGoesOn : Type 0
DescriptorGoesOn = (group : Descriptor) (w : RecordWrite) (old new : Device) (written : IsWritten (Alone w) old new)
    → w.kind ≡ kind.Descriptor → MayWriteAll Descriptor descriptor_of w group (image_of old.sizes written.media) → MayMakeOn old group → Path DeviceStep (StaysKept old) old new

-- Writes, among others those of a `mkvg`, one after the other, each from a still shelf: the notes of some disks, a status, the group's descriptor.
pub record Makes (group : Descriptor) (old new : Device) : Type 0 where
  pub noted : Device
  pub stated : Device
  pub targets : Disks
  pub sector : Sector
  pub notes : IsWritten (Note targets sector) old noted
  pub status : Status
  pub status_write : RecordWrite
  pub its_kind : status_write.kind ≡ kind.Status
  pub unused : (image : Image) → MayLeave noted image → IsUnused (contents_of image) status.id status_write.framed.stamp
  pub states : IsWritten (Alone status_write) noted stated
  pub may_state : MayWriteAll Status status_of status_write status (image_of noted.sizes states.media)
  pub group_write : RecordWrite
  pub own_kind : group_write.kind ≡ kind.Descriptor
  pub describes : IsWritten (Alone group_write) stated new
  pub may_describe : MayWriteAll Descriptor descriptor_of group_write group (image_of stated.sizes describes.media)

-- The disks named are given up, the group is written, and it is on from this moment: at each moment of that the history is legal and each crash image kept.
abbrev pub GroupIsMade : Type 0
GroupIsMade = (run : ℕ) (first : Moment) (facts : List Fact) (disks : List ℕ) (moment : ℕ) (group : Descriptor) (old new : Device)
    → Keeps run first (record { device = old; facts = facts }) → MayMakeOn old group → Makes group old new → run ≤ moment → IsLater facts moment
    → Keeps run first (record { device = new; facts = (facts ++ map (λ d. Removed (Disk d)) disks) ++ On moment ∷ [] })

-- What a survey of a still shelf finds is what may be left of it.
abbrev pub StillMayMake : Type 0
StillMayMake = (device : Device) (media : Media) (group : Descriptor) → device.media ≡ Some media → device.flights ≡ [] → MayMake (contents_of (image_of device.sizes media)) group → MayMakeOn device group
