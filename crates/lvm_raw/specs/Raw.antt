-- What the reading and the writing of a range of a disk does, by its answer.
use Rattle.std.specs.Prelude.{◌≡◌, ◌⊎◌, ℕ, List, Result, Ok, Err}
use Rattle.lvm_num.specs.Buffer.{Sector}
use Rattle.lvm_disk.specs.Device.{Device}
use Rattle.lvm_vol.specs.Log.{Log}
pub use Rattle.lvm_vol.specs.Log.{log_with, without_facts}
use Rattle.lvm_kept.specs.Moments.{Moment}
use Rattle.lvm_steps.specs.Requests.{at as moment_of}
use Rattle.lvm_raw.specs.declared.fault.RawFault.{RawFault}
use Rattle.lvm_raw.specs.declared.fault.RawFault.TheVariants as fault
use Rattle.lvm_raw.specs.Asking.{IsRejected, MayAsk}
use Rattle.lvm_raw.specs.Looking.{FindsNone, LookFails, look_ends}
use Rattle.lvm_raw.specs.Pieces.{WritesGo, ReadsGo}

-- No request is made of a range: it is rejected, and nothing happens; or its disk's slots are read, and this comes of it.
abbrev pub IsNotAsked : ℕ → ℕ → ℕ → ℕ → Log → Device → Log → Device → RawFault → Type 0
IsNotAsked disk at count patience was old is new why =
    (IsRejected old was disk at count why × (new ≡ old) × (is ≡ was)) ⊎ (MayAsk old was disk at count × LookFails patience disk old new why × (is ≡ look_ends was why))

-- A command on a range of a disk, whose pieces go so. It isn't begun; the disk's slots are read and no request is made; or they are, and the pieces go.
pub data RawGives {X : Type 0} (Goes : Moment → Moment → Result X RawFault → Type 0) (log : Log) (disk at count patience : ℕ) (old new : Moment) (answer : Result X RawFault) : Type 0 where
  Rejected : (why : RawFault) → answer ≡ Err why → IsRejected old.device (log_with log old.facts) disk at count why → new ≡ old → RawGives Goes log disk at count patience old new answer
  Unasked : (why : RawFault) → answer ≡ Err why → MayAsk old.device (log_with log old.facts) disk at count → LookFails patience disk old.device new.device why → log_with log new.facts ≡ look_ends (log_with log old.facts) why
      → RawGives Goes log disk at count patience old new answer
  Asked : MayAsk old.device (log_with log old.facts) disk at count → (mid : Device) → FindsNone patience disk old.device mid → Goes (moment_of mid old.facts) new answer → RawGives Goes log disk at count patience old new answer

-- what a write of a range does, its first block filled with this word
abbrev pub WriteGives : Log → ℕ → ℕ → ℕ → ℕ → ℕ → Moment → Moment → Result (Unit {0}) RawFault → Type 0
WriteGives log disk at count word patience old new answer = RawGives (WritesGo log.run disk at count word) log disk at count patience old new answer

-- what a read of one does
abbrev pub ReadGives : Log → ℕ → ℕ → ℕ → ℕ → Moment → Moment → Result (List Sector) RawFault → Type 0
ReadGives log disk at count patience old new answer = RawGives (ReadsGo log.run disk at count) log disk at count patience old new answer

-- all pieces of the range were asked for and answered by the disk
abbrev pub WasServed : {X : Type 0} → Result X RawFault → Type 0
WasServed (Ok x) = Unit {0}
WasServed (Err fault.Lost) = Unit {0}
WasServed (Err fault.ReadFailed) = Unit {0}
WasServed (Err other) = ⊥
