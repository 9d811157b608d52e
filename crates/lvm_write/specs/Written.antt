-- What a write of a record or of a note to several disks does, disk by disk.
use Rattle.std.specs.Prelude.{◌≡◌, ◌⊎◌, ℕ, ◌<◌, ◌≤◌, ◌&&◌, not, true, false, [], ◌∷◌, Some, IfSome, IsTrue, IsFalse, slice_get, ◌+◌, ◌++◌, List, Option, None, All}
use Rattle.lvm_num.specs.declared.record.Kind.{Kind}
use Rattle.lvm_num.specs.declared.record.Framed.{Framed}
use Rattle.lvm_num.specs.Buffer.{Buffer, Sector}
use Rattle.lvm_num.specs.Disks.{Disks}
use Rattle.lvm_num.specs.Geometry.{data_start}
use Rattle.lvm_disk.specs.Counts.{Rose}
use Rattle.lvm_disk.specs.Device.{Image, Range, Device, image_of, MayLeave}
use Rattle.lvm_disk.specs.Steps.{BothTold}
use Rattle.lvm_quorum.specs.passed.Transfer.{Plan, ChangesBy, RecordWrite, StandsOn, Homes, next_slot, IsUnheard}

-- the write of this record to these disks, by the slots that stand next
abbrev pub write_of : Kind → Framed → Disks → Homes → RecordWrite
write_of kind framed targets homes = record { kind = kind; framed = framed; targets = targets; slots = next_slot kind homes }

-- the disk is there, with room for records
abbrev pub HasRoom : Device → ℕ → Type 0
HasRoom device d = (size : ℕ) × (slice_get device.sizes d ≡ Some size) × (data_start ≤ size)

abbrev pub HaveRoom : Device → Disks → Type 0
HaveRoom device targets = (d : ℕ) → IsTrue (targets d) → HasRoom device d

-- each crash image is the media at first, but for what the write may bring; so it is at each moment of it
abbrev pub IsWriting : Plan → Device → Device → Type 0
IsWriting P old now = IfSome old.media (λ media. (image : Image) → MayLeave now image → ChangesBy P (image_of old.sizes media) image)

-- the range has sectors, and the plan brings something to each
abbrev pub IsInPlan : Plan → Range → Type 0
IsInPlan P range = (1 ≤ range.count) × ((s : ℕ) → range.first ≤ s → s < range.first + range.count → (value : Sector) × P range.disk s value)

-- The ranges that are told are those that were told before and others in the plan; or they are told no more.
abbrev pub LogsPlan : Plan → Option (List Range) → Option (List Range) → Type 0
LogsPlan P None None = Unit {0}
LogsPlan P None (Some new) = ⊥
LogsPlan P (Some old) None = Unit {0}
LogsPlan P (Some old) (Some new) = (more : List Range) × (new ≡ old ++ more) × All (IsInPlan P) more

-- The shelf is as it was, but for what a write to these disks counts and for what it may bring to their sectors; other disks are left alone.
pub record KeepsShelf (targets : Disks) (P : Plan) (old new : Device) : Type 0 where
  pub sizes : new.sizes ≡ old.sizes
  pub arranges : new.arranges ≡ old.arranges
  pub orders : new.orders ≡ old.orders
  pub misses : new.counts.misses ≡ old.counts.misses
  pub starts : (d : ℕ) → IsFalse (targets d) → new.counts.starts d ≡ old.counts.starts d
  pub faults : (d : ℕ) → IsFalse (targets d) → new.counts.faults d ≡ old.counts.faults d
  pub wrote : LogsPlan P old.wrote new.wrote
  pub media : BothTold old.media new.media (λ was is. ChangesBy P (image_of old.sizes was) (image_of new.sizes is))

-- all of the record stands on a target, where the content is told
abbrev pub StandsTold : RecordWrite → Device → ℕ → Type 0
StandsTold w device d = IfSome device.media (λ media. StandsOn w (image_of device.sizes media) d)

-- How the write of each disk ended: on a target that isn't among the failed all of it stands and its faults are as before,
-- on a failed one the faults rose; another disk is no failed one, and its faults are as before.
pub record EndsOn (targets : Disks) (Stands : Device → ℕ → Type 0) (failed : Disks) (old new : Device) (d : ℕ) : Type 0 where
  pub stands : IsTrue (targets d) → IsFalse (failed d) → Stands new d
  pub well : IsFalse (failed d) → new.counts.faults d ≡ old.counts.faults d
  pub badly : IsTrue (failed d) → Rose (old.counts.faults d) (new.counts.faults d)
  pub target : IsTrue (failed d) → IsTrue (targets d)

-- the targets that didn't fail
abbrev pub written_well : Disks → Disks → Disks
written_well targets failed d = targets d && not (failed d)

-- ---- how it was broken off

-- no buffer was given up, or just the one of this number
abbrev pub FreesAtMost : ℕ → Device → Type 0
FreesAtMost number device = (device.freed ≡ []) ⊎ ((buf : Buffer) × (device.freed ≡ buf ∷ []) × (buf.number ≡ number))

-- The power is off, in this call, and nothing is out; no buffer was given up but the one of this number.
pub record IsDarkened (number : ℕ) (old new : Device) : Type 0 where
  pub flights : new.flights ≡ []
  pub freed : FreesAtMost number new
  pub power : new.power ≡ false
  pub cuts : Rose old.counts.cuts new.counts.cuts

-- Just one transfer is out, a write with the buffer of this number; the power is on as ever, no buffer was given up, and so many answers
-- that nothing has ended were borne.
abbrev pub IsGivenUp : ℕ → ℕ → Device → Device → Type 0
IsGivenUp number patience old new = IsUnheard true number patience old new
