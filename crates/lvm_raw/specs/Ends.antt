-- How a command on a range of a disk ends, by its answer.
use Rattle.std.specs.Prelude.{◌≡◌, ℕ, Result, Err, IfOk, IfErr}
use Rattle.lvm_disk.specs.Counts.{Rose, RoseBy}
use Rattle.lvm_disk.specs.Device.{Device}
use Rattle.lvm_vol.specs.Log.{Log}
use Rattle.lvm_steps.specs.Requests.{IsInNoGroup}
use Rattle.lvm_raw.specs.declared.fault.RawFault.{RawFault}
use Rattle.lvm_raw.specs.declared.fault.RawFault.TheVariants as fault
use Rattle.lvm_raw.specs.Asking.{IsNoDisk, IsInData, IsOutsideDisk, IsFull, IsRejected}
use Rattle.lvm_raw.specs.Looking.{ShowsDescriptor}

-- why there was this fault, where a transfer of data fails as `failed`; of want of memory nothing is said
abbrev pub FaultHasCause : RawFault → Log → ℕ → ℕ → ℕ → ℕ → Device → Device → RawFault → Type 0
FaultHasCause failed log disk at count patience old new (fault.NoDisk d) = (d ≡ disk) × IsNoDisk old disk
FaultHasCause failed log disk at count patience old new (fault.OutOfRange size) = IsOutsideDisk old disk at count size
FaultHasCause failed log disk at count patience old new fault.HistoryFull = IsInData old disk at count × IsFull log at count
FaultHasCause failed log disk at count patience old new fault.Dark = Rose old.counts.cuts new.counts.cuts
FaultHasCause failed log disk at count patience old new fault.Stuck = RoseBy patience old.counts.waits new.counts.waits
FaultHasCause failed log disk at count patience old new (fault.DiskFailed d) = (d ≡ disk) × Rose (old.counts.misses disk) (new.counts.misses disk)
FaultHasCause failed log disk at count patience old new (fault.InGroup d) = (d ≡ disk) × ShowsDescriptor old disk
FaultHasCause failed log disk at count patience old new fault.Lost = (failed ≡ fault.Lost) × IsInNoGroup old disk × Rose (old.counts.faults disk) (new.counts.faults disk)
FaultHasCause failed log disk at count patience old new fault.ReadFailed = (failed ≡ fault.ReadFailed) × IsInNoGroup old disk × Rose (old.counts.faults disk) (new.counts.faults disk)
FaultHasCause failed log disk at count patience old new fault.Memory = Unit {0}

-- What is rejected is answered so, only a disk in no group is served, and each fault has its cause.
pub record RawEnds {X : Type 0} (failed : RawFault) (log : Log) (disk at count patience : ℕ) (old new : Device) (given : Result X RawFault) : Type 0 where
  pub rejects : (why : RawFault) → IsRejected old log disk at count why → given ≡ Err why
  pub served : IfOk given (λ x. IsInNoGroup old disk)
  pub cause : IfErr given (FaultHasCause failed log disk at count patience old new)
