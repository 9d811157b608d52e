-- What is asked of the transfers that are out.
use Rattle.std.specs.Prelude.{ℕ}
use Rattle.lvm_num.specs.declared.record.Kind.TheVariants as kind
use Rattle.lvm_num.specs.Buffer.{Sector}
use Rattle.lvm_disk.specs.Device.{Device, IsInFlight}
use Rattle.lvm_kept.specs.Torn.{IsOutsideSlots}

-- no transfer that is out goes to a slot of descriptors
abbrev pub LeavesDescriptors : Device → Type 0
LeavesDescriptors device = (d at : ℕ) (value : Sector) → IsInFlight device.flights d at value → IsOutsideSlots kind.Descriptor d at value
