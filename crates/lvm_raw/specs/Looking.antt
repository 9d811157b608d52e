-- Whether a disk is in a group, which its descriptor slots say.
use Rattle.std.specs.Prelude.{◌≡◌, ℕ, IsSome, IfSome}
use Rattle.lvm_num.specs.declared.record.Kind.TheVariants as kind
use Rattle.lvm_disk.specs.Device.{Device, image_of}
use Rattle.lvm_vol.specs.Log.{Log, cut_log}
use Rattle.lvm_kept.specs.Contents.{descriptor_on}
use Rattle.lvm_steps.specs.Requests.{IsInNoGroup}
use Rattle.lvm_transfer.specs.Transfer.{Relights}
use Rattle.lvm_transfer.specs.Reading.{OnlyReads, IsUntouched, IsCutOff, IsReadStuck, AllWereRead, OneReadFailed}
use Rattle.lvm_quorum.specs.Reading.{SlotsRead}
use Rattle.lvm_raw.specs.declared.fault.RawFault.{RawFault}
use Rattle.lvm_raw.specs.declared.fault.RawFault.TheVariants as fault

-- where it is told what stands on the disks, a slot of this one holds a valid descriptor
abbrev pub ShowsDescriptor : Device → ℕ → Type 0
ShowsDescriptor device disk = IfSome device.media (λ media. IsSome (descriptor_on (image_of device.sizes media) disk))

-- nothing but reads of this disk's records
pub record ReadsRecords (patience disk : ℕ) (old new : Device) : Type 0 where
  pub left : ℕ
  pub only : OnlyReads patience left old new
  pub elsewhere : (d : ℕ) → (d ≡ disk → ⊥) → IsUntouched d old new

-- both slots were read whole, and the disk is in no group
pub record FindsNone (patience disk : ℕ) (old new : Device) : Type 0 where
  pub reads : ReadsRecords patience disk old new
  pub all : AllWereRead disk old new
  pub whole : SlotsRead kind.Descriptor disk old new
  pub none : IsInNoGroup new disk

-- the power was cut in one of the reads, and is on again
pub record WasDark (patience disk : ℕ) (old new : Device) : Type 0 where
  pub dark : Device
  pub reads : ReadsRecords patience disk old dark
  pub off : IsCutOff old dark
  pub lit : Relights dark new

-- Why no request is made once the slots are read, and what that leaves of the shelf. Where memory was wanting no read had failed.
abbrev pub LookFails : ℕ → ℕ → Device → Device → RawFault → Type 0
LookFails patience disk old new fault.Dark = WasDark patience disk old new
LookFails patience disk old new fault.Stuck = ReadsRecords patience disk old new × ((number : ℕ) × IsReadStuck number patience old new)
LookFails patience disk old new (fault.DiskFailed d) = (d ≡ disk) × ReadsRecords patience disk old new × OneReadFailed disk old new
LookFails patience disk old new (fault.InGroup d) = (d ≡ disk) × ReadsRecords patience disk old new × AllWereRead disk old new × ShowsDescriptor old disk × SlotsRead kind.Descriptor disk old new
LookFails patience disk old new fault.Memory = ReadsRecords patience disk old new × AllWereRead disk old new
LookFails patience disk old new other = ⊥

-- the history then: a cut is entered where it ends something
abbrev pub look_ends : Log → RawFault → Log
look_ends log fault.Dark = cut_log log
look_ends log other = log
