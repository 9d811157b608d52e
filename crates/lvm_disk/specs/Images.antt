-- The law of sectors: only a start of a write adds crash images.
use Rattle.std.specs.Prelude.{◌≡◌, ◌⊎◌, ℕ, true, Some, slice_get}
use Rattle.std.specs.List.{AllByRecursion}
use Rattle.lvm_num.specs.Buffer.{Buffer, Sector, IsSector}
use Rattle.lvm_disk.specs.Device.{Image, Flight, Device, SameDisks, written, MayLeave, AreSectors, HasSectors}
use Rattle.lvm_disk.specs.Steps.{Cuts, Starts, EndsDone, EndsFailed, Arranges}
use Rattle.lvm_disk.specs.declared.shelf.Arrange.{Arrange}

-- whatever a crash may leave of the new device, it might have left of the old one
abbrev pub LeavesNoMore : Device → Device → Type 0
LeavesNoMore old new = (image : Image) → MayLeave new image → MayLeave old image

-- the images differ only in sectors that the flight would write, and there the second has what it would write
pub record DiffersBy (f : Flight) (before after : Image) : Type 0 where
  pub same : SameDisks before after
  pub each : (d s : ℕ) → (after.sector d s ≡ before.sector d s) ⊎ (written f d s ≡ Some (after.sector d s))

-- a cut leaves one of the crash images that there were
abbrev pub CutLaw : Type 0
CutLaw = (old new : Device) → Cuts old new → LeavesNoMore old new

-- so does a flight that ends well
abbrev pub DoneLaw : Type 0
DoneLaw = (old new : Device) (ticket : ℕ) (buf : Buffer) → EndsDone old new ticket buf → LeavesNoMore old new

-- and one that fails
abbrev pub FailedLaw : Type 0
FailedLaw = (old new : Device) (ticket : ℕ) (buf : Buffer) → EndsFailed old new ticket buf → LeavesNoMore old new

-- a start adds only images that differ from an earlier one by its own sectors
abbrev pub StartLaw : Type 0
StartLaw = (old new : Device) (f : Flight) → Starts old new f → (image : Image) → MayLeave new image → (before : Image) × MayLeave old before × DiffersBy f before image

-- nor does an arrangement, also one that cuts the power, add any
abbrev pub ArrangeLaw : Type 0
ArrangeLaw = (old new : Device) (what : Arrange) → Arranges old new what → LeavesNoMore old new

-- ---- whole sectors

-- each sector of the buffer has 512 bytes
abbrev pub IsWholeBuffer : Buffer → Type 0
IsWholeBuffer buf = (i : ℕ) (sector : Sector) → slice_get buf.sectors i ≡ Some sector → IsSector sector

-- where the media has whole sectors, and the writes that are out bring such, so has each crash image
abbrev pub WholeLaw : Type 0
WholeLaw =
    (device : Device) (image : Image) → HasSectors device → AllByRecursion (λ f. f.write ≡ true → IsWholeBuffer f.buf) device.flights → MayLeave device image
    → AreSectors device.sizes image.sector
