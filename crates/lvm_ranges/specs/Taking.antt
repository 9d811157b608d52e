-- The answers of a range are taken, and the first that isn't well decides its own.
use Rattle.std.specs.Prelude.{◌≡◌, ◌+◌, ℕ, Bool, true, false, Option, Some, None}
use Rattle.lvm_session.specs.declared.answers.Taken.{Taken}
use Rattle.lvm_session.specs.declared.answers.Taken.TheVariants as answered
use Rattle.lvm_session.specs.Calls.{TakeGives}
use Rattle.lvm_session.specs.State.{Core}
use Rattle.lvm_posts.specs.declared.fault.RangeFault.{RangeFault}
use Rattle.lvm_posts.specs.declared.fault.RangeFault.TheVariants as fault

-- how a piece in this logical partition has failed that was answered so, if it has, where the votes are so many of so many
abbrev pub fault_taken : ℕ → ℕ → ℕ → Taken → Option RangeFault
fault_taken lp have total answered.Done = None
fault_taken lp have total (answered.Got place count) = None
fault_taken lp have total answered.Lost = Some fault.Lost
fault_taken lp have total answered.ReadFailed = Some fault.ReadFailed
fault_taken lp have total answered.NoFresh = Some (fault.NoFresh lp)
fault_taken lp have total answered.Off = Some (fault.WentOff have total)
fault_taken lp have total answered.Dark = Some fault.Dark
fault_taken lp have total answered.NotYet = None
fault_taken lp have total answered.Unknown = None

-- the request had landed, and its answer goes with it
abbrev pub is_landed : Taken → Bool
is_landed answered.Done = true
is_landed (answered.Got place count) = true
is_landed answered.Lost = true
is_landed answered.ReadFailed = true
is_landed answered.NoFresh = true
is_landed answered.Off = true
is_landed answered.Dark = true
is_landed answered.NotYet = false
is_landed answered.Unknown = false

-- The answers of so many requests of client 1 from this number on were taken, one after the other.
pub data TakesAnswers (id : ℕ) (first : Core) : ℕ → Core → Type 0 where
  NoTake : TakesAnswers id first 0 first
  OneTake : {n : ℕ} {core new : Core} → TakesAnswers id first n core → (answer : Taken) → TakeGives core new 1 (id + n) answer → is_landed answer ≡ true → TakesAnswers id first (n + 1) new
