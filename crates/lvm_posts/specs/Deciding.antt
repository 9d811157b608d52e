-- The first piece of a range that isn't well decides its answer.
use Rattle.std.specs.Prelude.{◌≡◌, ◌<◌, ◌+◌, ℕ, List, Option, Some, None, Result, Ok, Err}
use Rattle.lvm_vol.specs.declared.entry.Outcome.{Outcome}
use Rattle.lvm_vol.specs.declared.entry.Outcome.TheVariants as outcome
use Rattle.lvm_vol.specs.Facts.{Fact}
use Rattle.lvm_session.specs.Sound.{outcome_in}
use Rattle.lvm_posts.specs.declared.asked.Asked.{Asked}
use Rattle.lvm_posts.specs.declared.fault.RangeFault.{RangeFault}
use Rattle.lvm_posts.specs.declared.fault.RangeFault.TheVariants as fault
use Rattle.lvm_posts.specs.Pieces.{piece_lp}

-- how a piece in this logical partition has failed that landed so, if it has, where the votes are so many of so many
abbrev pub fault_by : ℕ → ℕ → ℕ → Outcome → Option RangeFault
fault_by lp have total outcome.Done = None
fault_by lp have total outcome.Got = None
fault_by lp have total outcome.Lost = Some fault.Lost
fault_by lp have total outcome.ReadFailed = Some fault.ReadFailed
fault_by lp have total outcome.NoFresh = Some (fault.NoFresh lp)
fault_by lp have total outcome.Off = Some (fault.WentOff have total)
fault_by lp have total outcome.Dark = Some fault.Dark

-- the piece of this index has landed so, and this is its fault, if any
pub record EndsWith (facts : List Fact) (asked : Asked) (have total k : ℕ) (why : Option RangeFault) : Type 0 where
  pub how : Outcome
  pub landed : outcome_in facts (asked.first + k) ≡ Some how
  pub fault : fault_by (piece_lp asked k) have total how ≡ why

-- The first of its pieces that failed, by what the history tells, is the answer; where none did, it is done.
pub data RangeEnds (facts : List Fact) (asked : Asked) (have total : ℕ) (answer : Result (Unit {0}) RangeFault) : Type 0 where
  AllWell : ((k : ℕ) → k < asked.pieces → EndsWith facts asked have total k None) → answer ≡ Ok tt → RangeEnds facts asked have total answer
  FirstFails : (k : ℕ) (why : RangeFault) → k < asked.pieces → ((j : ℕ) → j < k → EndsWith facts asked have total j None) → EndsWith facts asked have total k (Some why) → answer ≡ Err why
      → RangeEnds facts asked have total answer
