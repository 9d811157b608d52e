-- What has happened where copies aren't brought up.
use Rattle.std.specs.Prelude.{◌≡◌, ℕ, false}
use Rattle.lvm_disk.specs.Counts.{Rose}
use Rattle.lvm_session.specs.declared.open.Power.TheVariants as power
use Rattle.lvm_session.specs.Calls.{has_numbers}
use Rattle.lvm_session.specs.State.{State}
use Rattle.lvm_ranges.specs.passed.Calls.{faults_seen}
use Rattle.lvm_ranges.specs.declared.fault.SyncFault.{SyncFault}
use Rattle.lvm_ranges.specs.declared.fault.SyncFault.TheVariants as fault

-- a transfer of some disk has failed; of one that isn't on the shelf, since the session began
abbrev pub AnyFails : State → State → Type 0
AnyFails old new = (disk : ℕ) × Rose (faults_seen old.device old.core disk) (new.device.counts.faults disk)

-- The power was cut; the votes are lost; the patience has run out; the numbers of stamps are short; or a transfer has failed. For the others nothing has to have
-- happened.
abbrev pub SyncCause : ℕ → State → State → SyncFault → Type 0
SyncCause left old new fault.Dark = new.core.power ≡ power.Dark
SyncCause left old new fault.Off = new.core.power ≡ power.Off
SyncCause left old new fault.Stuck = left ≡ 0
SyncCause left old new fault.HistoryFull = has_numbers new.core ≡ false
SyncCause left old new (fault.SyncFailed disk) = AnyFails old new
SyncCause left old new other = Unit {0}
