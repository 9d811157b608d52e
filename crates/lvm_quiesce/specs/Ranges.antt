-- What the reading and the writing of a range of a disk do where transfers of before may be out.
use Rattle.std.specs.Prelude.{◌≡◌, ◌⊎◌, ℕ, true, List, Result, Ok, Err}
use Rattle.lvm_num.specs.Buffer.{Sector}
use Rattle.lvm_disk.specs.Device.{Device, IsReady}
use Rattle.lvm_vol.specs.Log.{Log, cut_log}
use Rattle.lvm_kept.specs.Moments.{Moment, StaysCalm}
use Rattle.lvm_steps.specs.Moments.{Keeps}
use Rattle.lvm_steps.specs.Requests.{at as moment_of}
use Rattle.lvm_steps.specs.Behind.{StampsAreEarlier}
use Rattle.lvm_transfer.specs.Transfer.{Relights}
use Rattle.lvm_write.specs.Parts.{Spends}
use Rattle.lvm_raw.specs.OnePieceKeeping.{KeepsArrangements, HaveAllLanded, NoneComesOn}
use Rattle.lvm_raw.specs.declared.fault.RawFault.{RawFault}
use Rattle.lvm_raw.specs.declared.fault.RawFault.TheVariants as fault
use Rattle.lvm_raw.specs.Asking.{IsRejected, MayAsk}
use Rattle.lvm_raw.specs.Ends.{RawEnds}
use Rattle.lvm_raw.specs.Keeping.{AnswerHasCause, IsUnstuck}
use Rattle.lvm_raw.specs.Raw.{log_with, WriteGives, ReadGives}
use Rattle.lvm_quiesce.specs.Behind.{IsBehindEach}
use Rattle.lvm_quiesce.specs.Ends.{Quiesces, IsCutEnding, IsStuckEnding}
use Rattle.lvm_quiesce.specs.Quiet.{OnceQuiet}

-- ---- the transfers that were out

-- the power was cut while one was out, and is on again
pub record IsCutAndLit (old new : Device) : Type 0 where
  pub dark : Device
  pub cut : IsCutEnding old dark
  pub lit : Relights dark new

-- They haven't all ended: the power was cut, which is entered where it ends something; or nothing was heard of them.
abbrev pub RangeStaysOut : ℕ → Device → Device → Log → Log → RawFault → Type 0
RangeStaysOut patience old new was is fault.Dark = IsCutAndLit old new × (is ≡ cut_log was)
RangeStaysOut patience old new was is fault.Stuck = IsStuckEnding patience old new × (is ≡ was)
RangeStaysOut patience old new was is other = ⊥

-- the range is rejected, and nothing happens
pub record IsRejectedAtOnce (disk at count before after : ℕ) (old new : Device) (was is : Log) (why : RawFault) : Type 0 where
  pub rejected : IsRejected old was disk at count why
  pub shelf : new ≡ old
  pub history : is ≡ was
  pub patience : after ≡ before

-- nothing is against it, and all transfers that were out have ended
pub record IsAtRestFor (disk at count before after : ℕ) (old new : Device) (was is : Log) : Type 0 where
  pub may : MayAsk old was disk at count
  pub quiesces : Quiesces old new
  pub spends : Spends before after old new
  pub history : is ≡ was

-- nothing is against it, and they haven't
pub record IsKeptFrom (disk at count before after : ℕ) (old new : Device) (was is : Log) (why : RawFault) : Type 0 where
  pub may : MayAsk old was disk at count
  pub out : RangeStaysOut before old new was is why
  pub spends : Spends before after old new

-- whether the range is asked for
abbrev pub RangeRestGives : ℕ → ℕ → ℕ → ℕ → ℕ → Device → Device → Log → Log → Result (Unit {0}) RawFault → Type 0
RangeRestGives disk at count before after old new was is (Ok nothing) = IsAtRestFor disk at count before after old new was is
RangeRestGives disk at count before after old new was is (Err why) = IsRejectedAtOnce disk at count before after old new was is why ⊎ IsKeptFrom disk at count before after old new was is why

-- ---- a command on a range

-- It is rejected, and nothing changes; or nothing is against it, and of the transfers that were out not all end, or they do, and it goes on from there.
pub data RangeOnceQuiet {X : Type 0} (Goes : ℕ → Moment → Moment → Result X RawFault → Type 0) (log : Log) (disk at count patience : ℕ) (old new : Moment) (given : Result X RawFault) : Type 0 where
  RejectedAtOnce : (why : RawFault) → given ≡ Err why → IsRejected old.device (log_with log old.facts) disk at count why → new ≡ old → RangeOnceQuiet Goes log disk at count patience old new given
  KeptFrom : (why : RawFault) → given ≡ Err why → MayAsk old.device (log_with log old.facts) disk at count → RangeStaysOut patience old.device new.device (log_with log old.facts) (log_with log new.facts) why
      → RangeOnceQuiet Goes log disk at count patience old new given
  AskedAtRest : MayAsk old.device (log_with log old.facts) disk at count → OnceQuiet patience old.device (λ left mid. Goes left (moment_of mid old.facts) new given) → RangeOnceQuiet Goes log disk at count patience old new given

-- a write on a shelf at rest, and how it ends
pub record WritesAtRest (log : Log) (disk at count word patience : ℕ) (old new : Moment) (given : Result (Unit {0}) RawFault) : Type 0 where
  pub gives : WriteGives log disk at count word patience old new given
  pub ends : RawEnds fault.Lost (log_with log old.facts) disk at count patience old.device new.device given

-- a read of one
pub record ReadsAtRest (log : Log) (disk at count patience : ℕ) (old new : Moment) (given : Result (List Sector) RawFault) : Type 0 where
  pub gives : ReadGives log disk at count patience old new given
  pub ends : RawEnds fault.ReadFailed (log_with log old.facts) disk at count patience old.device new.device given

-- a write, its first block filled with this word
abbrev pub WriteOnceQuiet : Log → ℕ → ℕ → ℕ → ℕ → ℕ → Moment → Moment → Result (Unit {0}) RawFault → Type 0
WriteOnceQuiet log disk at count word patience old new given = RangeOnceQuiet (λ left mid new given. WritesAtRest log disk at count word left mid new given) log disk at count patience old new given

-- a read
abbrev pub ReadOnceQuiet : Log → ℕ → ℕ → ℕ → ℕ → Moment → Moment → Result (List Sector) RawFault → Type 0
ReadOnceQuiet log disk at count patience old new given = RangeOnceQuiet (λ left mid new given. ReadsAtRest log disk at count left mid new given) log disk at count patience old new given

-- ---- whatever the answer

-- What it leaves, and each part of it: at each moment the history is legal and each crash image kept with it. Unless nothing was heard of a transfer, nothing
-- has changed, or the shelf is at rest.
pub record RangeKeepsEach {X : Type 0} (run disk before after : ℕ) (old new : Moment) (given : Result X RawFault) : Type 0 where
  pub keeps : Keeps run old new
  pub calm : IsUnstuck given → StaysCalm old new
  pub behind : (m : ℕ) → IsBehindEach m old.device → StampsAreEarlier m new.device
  pub rests : IsUnstuck given → (new ≡ old) ⊎ IsReady new.device
  pub shelf : KeepsArrangements before after old.device new.device
  pub power : new.device.power ≡ true
  pub landed : IsUnstuck given → HaveAllLanded old.facts → HaveAllLanded new.facts
  pub later : NoneComesOn old.facts new.facts
  pub cause : AnswerHasCause disk before old.device.counts new.device.counts given
