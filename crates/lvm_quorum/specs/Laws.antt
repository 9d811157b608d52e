-- What the records that disks show always are.
use Rattle.std.specs.Prelude.{◌≡◌, ℕ, Some}
use Rattle.lvm_num.specs.declared.descriptor.Descriptor.{Descriptor}
use Rattle.lvm_num.specs.declared.status.Status.{Status}
use Rattle.lvm_num.specs.Descriptor.{IsValid}
use Rattle.lvm_num.specs.Record.{Stamped}
use Rattle.lvm_num.specs.Status.{IsValidStatus}
use Rattle.lvm_quorum.specs.passed.Transfer.{Image, IsWholeImage, contents_of}

-- a descriptor that a disk shows as its newest is valid
abbrev pub DescriptorsAreValid : Type 0
DescriptorsAreValid = (image : Image) (d : ℕ) (r : Stamped Descriptor) → IsWholeImage image → (contents_of image).descriptor d ≡ Some r → IsValid r.value

-- and so is a status
abbrev pub StatusesAreValid : Type 0
StatusesAreValid = (image : Image) (d : ℕ) (r : Stamped Status) → IsWholeImage image → (contents_of image).status d ≡ Some r → IsValidStatus r.value
