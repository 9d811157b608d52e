-- What the disks show while a record is written to them, and afterwards.
use Rattle.std.specs.Prelude.{◌≡◌, ℕ, true, List, Some, Result, Ok, IsTrue, IsFalse}
use Rattle.lvm_num.specs.declared.descriptor.Descriptor.{Descriptor}
use Rattle.lvm_num.specs.declared.status.Status.{Status}
use Rattle.lvm_num.specs.declared.record.Framed.{Framed}
use Rattle.lvm_num.specs.declared.record.Kind.TheVariants as kind
use Rattle.lvm_num.specs.Disks.{Disks}
use Rattle.lvm_num.specs.DescriptorBytes.{descriptor_of}
use Rattle.lvm_num.specs.StatusBytes.{status_of}
use Rattle.lvm_num.specs.Record.{Frames}
use Rattle.lvm_quorum.specs.passed.Transfer.{BothBefore, has_records, newest_at, contents_of, RecordWrite, on_disk, IsOfRecord, MayWriteAll, DescriptorsChange, StatusesChange, written, Homes}
use Rattle.lvm_disk.specs.Device.{Media, Image, Device, image_of, MayLeave}
use Rattle.lvm_write.specs.Homes.{SparesNewest}
use Rattle.lvm_write.specs.Written.{write_of, IsWriting, KeepsShelf, EndsOn, StandsTold}

-- The record may be written where the slot that comes next spares the newest one, under a stamp after all that stand in the slots.
abbrev pub IsSlotFit : RecordWrite → Homes → Image → ℕ → Type 0
IsSlotFit w homes image d = (has_records image d ≡ true) × SparesNewest homes image d × BothBefore (on_disk w d) (image.sector d)

abbrev pub DescriptorMayBeWritten : Type 0
DescriptorMayBeWritten =
    (framed : Framed) (group : Descriptor) (targets : Disks) (homes : Homes) (image : Image) → Frames kind.Descriptor framed → descriptor_of framed.content ≡ Ok group
    → ((d : ℕ) → IsTrue (targets d) → IsSlotFit (write_of kind.Descriptor framed targets homes) homes image d) → MayWriteAll Descriptor descriptor_of (write_of kind.Descriptor framed targets homes) group image

abbrev pub StatusMayBeWritten : Type 0
StatusMayBeWritten =
    (framed : Framed) (status : Status) (targets : Disks) (homes : Homes) (image : Image) → Frames kind.Status framed → status_of framed.content ≡ Ok status
    → ((d : ℕ) → IsTrue (targets d) → IsSlotFit (write_of kind.Status framed targets homes) homes image d) → MayWriteAll Status status_of (write_of kind.Status framed targets homes) status image

-- At each moment of the write each crash image shows on each target its old descriptor or the new one, and all else as it was.
abbrev pub DescriptorsOldOrNew : Type 0
DescriptorsOldOrNew =
    (w : RecordWrite) (group : Descriptor) (old now : Device) (media : Media) (image : Image) → w.kind ≡ kind.Descriptor → old.media ≡ Some media
    → MayWriteAll Descriptor descriptor_of w group (image_of old.sizes media) → IsWriting (IsOfRecord w) old now → MayLeave now image
    → DescriptorsChange w.targets (written w group) (contents_of (image_of old.sizes media)) (contents_of image)

abbrev pub StatusesOldOrNew : Type 0
StatusesOldOrNew =
    (w : RecordWrite) (status : Status) (old now : Device) (media : Media) (image : Image) → w.kind ≡ kind.Status → old.media ≡ Some media
    → MayWriteAll Status status_of w status (image_of old.sizes media) → IsWriting (IsOfRecord w) old now → MayLeave now image
    → StatusesChange w.targets (written w status) (contents_of (image_of old.sizes media)) (contents_of image)

-- Where the write to a target ended well, the new record is its newest.
abbrev pub WrittenIsNewest : Type 0 → Type 0
WrittenIsNewest X =
    (content_of : List ℕ → Result X ℕ) (w : RecordWrite) (x : X) (failed : Disks) (old new : Device) (was is : Media) (d : ℕ) → old.media ≡ Some was → new.media ≡ Some is
    → MayWriteAll X content_of w x (image_of old.sizes was) → KeepsShelf w.targets (IsOfRecord w) old new → EndsOn w.targets (StandsTold w) failed old new d → IsTrue (w.targets d) → IsFalse (failed d)
    → newest_at content_of w.kind (image_of new.sizes is) d ≡ Some (written w x)
