-- What is kept while ranges of disks in no group are read and written.
use Rattle.std.specs.Prelude.{◌≡◌, ℕ, true, Result, Err, IfErr}
use Rattle.lvm_disk.specs.Counts.{Rose, RoseBy, Counts}
use Rattle.lvm_disk.specs.Device.{IsReady}
use Rattle.lvm_kept.specs.Moments.{Moment, StaysCalm}
use Rattle.lvm_steps.specs.Moments.{Keeps}
use Rattle.lvm_raw.specs.OnePieceKeeping.{KeepsArrangements, KeepsOlder, HaveAllLanded, NoneComesOn}
use Rattle.lvm_raw.specs.declared.fault.RawFault.{RawFault}
use Rattle.lvm_raw.specs.declared.fault.RawFault.TheVariants as fault

-- What has risen where a command on a range of a disk has this fault.
abbrev pub FaultRose : ℕ → ℕ → Counts → Counts → RawFault → Type 0
FaultRose disk patience old new fault.Lost = Rose (old.faults disk) (new.faults disk)
FaultRose disk patience old new fault.ReadFailed = Rose (old.faults disk) (new.faults disk)
FaultRose disk patience old new fault.Dark = Rose old.cuts new.cuts
FaultRose disk patience old new fault.Stuck = RoseBy patience old.waits new.waits
FaultRose disk patience old new (fault.DiskFailed d) = Rose (old.misses disk) (new.misses disk)
FaultRose disk patience old new other = Unit {0}

abbrev pub AnswerHasCause : {X : Type 0} → ℕ → ℕ → Counts → Counts → Result X RawFault → Type 0
AnswerHasCause disk patience old new given = IfErr given (FaultRose disk patience old new)

-- the answer isn't that nothing was heard of a transfer
abbrev pub IsUnstuck : {X : Type 0} → Result X RawFault → Type 0
IsUnstuck given = given ≡ Err fault.Stuck → ⊥

-- What a command on a range of a disk leaves, and each part of it: at each moment the history is legal and each crash image kept with it.
pub record RangeKeeps {X : Type 0} (run disk before after : ℕ) (old new : Moment) (given : Result X RawFault) : Type 0 where
  pub keeps : Keeps run old new
  pub calm : IsUnstuck given → StaysCalm old new
  pub behind : KeepsOlder old.device new.device
  pub shelf : KeepsArrangements before after old.device new.device
  pub power : new.device.power ≡ true
  pub ready : IsUnstuck given → IsReady new.device
  pub landed : IsUnstuck given → HaveAllLanded old.facts → HaveAllLanded new.facts
  pub later : NoneComesOn old.facts new.facts
  pub cause : AnswerHasCause disk before old.device.counts new.device.counts given
