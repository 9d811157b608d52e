-- Turns until nothing may be made.
use Rattle.std.specs.Prelude.{◌≡◌, ◌+◌, ◌≤◌, ℕ, [], false, None, Result, Ok, Err}
use Rattle.lvm_num.specs.Votes.{total_votes}
use Rattle.lvm_session.specs.declared.open.Power.TheVariants as power
use Rattle.lvm_session.specs.declared.answers.CopyState.TheVariants as copy
use Rattle.lvm_session.specs.Calls.{copy_state}
use Rattle.lvm_session.specs.Enabled.{first_event, is_lost}
use Rattle.lvm_session.specs.Sound.{IsSound}
use Rattle.lvm_session.specs.State.{State, votes_there}
use Rattle.lvm_session.specs.declared.answers.Turned.{Turned}
use Rattle.lvm_session.specs.declared.answers.Turned.TheVariants as turned
use Rattle.lvm_session.specs.Turns.{Finds, TurnMakes}
use Rattle.lvm_core.specs.declared.fault.CommitFault.{CommitFault}
use Rattle.lvm_core.specs.declared.fault.CommitFault.TheVariants as fault

-- a turn, whatever it answers
abbrev pub IsTurn : State → State → Type 0
IsTurn old new = (answer : Turned) × TurnMakes old new answer

-- at each moment it is whatever turns make of it
abbrev pub IsAny : State → Type 0
IsAny s = Unit {0}

-- the session goes on with votes enough to write, no event may be made, and no transfer is out
pub record IsDrained (s : State) : Type 0 where
  pub on : s.core.power ≡ power.On
  pub votes : is_lost s.core ≡ false
  pub none : first_event s.core ≡ None
  pub idle : s.device.flights ≡ []

-- the votes are lost, of which there are so many
pub record IsOffWith (s : State) (have total : ℕ) : Type 0 where
  pub power_is : s.core.power ≡ power.Off
  pub have_is : have ≡ votes_there s.core
  pub total_is : total ≡ total_votes s.core.descriptor

-- why it ends, with so much patience left: a disk that fails doesn't end it
abbrev pub FailsSo : ℕ → State → CommitFault → Type 0
FailsSo left s fault.Dark = s.core.power ≡ power.Dark
FailsSo left s (fault.WentOff have total) = IsOffWith s have total
FailsSo left s fault.Stuck = left ≡ 0
FailsSo left s (fault.DiskFailed disk) = ⊥

-- Nothing is left to be made; or the session is over; or the patience has run out.
abbrev pub DrainEnds : ℕ → State → Result (Unit {0}) CommitFault → Type 0
DrainEnds left s (Ok done) = IsDrained s
DrainEnds left s (Err why) = FailsSo left s why

-- Then a copy that is open doesn't run: it has ended, or it is a move that is done.
abbrev pub DrainedHasEnded : Type 0
DrainedHasEnded = (s : State) → IsSound s → IsDrained s → (cursor : ℕ) → copy_state s.core ≡ copy.Running cursor → ⊥

-- ---- what it costs

-- Turns by so much patience, each made while this holds, and the patience that is left. One that finds that none of the transfers that are out has ended
-- costs one, and each other has moved; none is made once the patience has run out.
pub data TurnsWhile (May : State → Type 0) (patience : ℕ) (first : State) : ℕ → State → Type 0 where
  NoTurn : TurnsWhile May patience first patience first
  ThenMoves : {left : ℕ} {old new : State} → TurnsWhile May patience first left old → May old → 1 ≤ left → TurnMakes old new turned.Moved → TurnsWhile May patience first left new
  ThenWaits : {left less : ℕ} {old new : State} → TurnsWhile May patience first left old → May old → left ≡ less + 1 → TurnMakes old new turned.Idle → Finds old new
      → TurnsWhile May patience first less new

-- behind them one that has answered so is the last
pub record LastTurn (May : State → Type 0) (patience left : ℕ) (first now : State) (answer : Turned) : Type 0 where
  pub old : State
  pub turns : TurnsWhile May patience first left old
  pub may : May old
  pub some : 1 ≤ left
  pub makes : TurnMakes old now answer

-- The last turn is the first that finds nothing to wait for, or the session over; or the patience has run out.
abbrev pub DrainCosts : ℕ → ℕ → State → State → Result (Unit {0}) CommitFault → Type 0
DrainCosts patience left old new (Ok done) = LastTurn IsAny patience left old new turned.Idle
DrainCosts patience left old new (Err fault.Dark) = LastTurn IsAny patience left old new turned.Dark
DrainCosts patience left old new (Err (fault.WentOff have total)) = LastTurn IsAny patience left old new turned.Off
DrainCosts patience left old new (Err fault.Stuck) = TurnsWhile IsAny patience old left new
DrainCosts patience left old new (Err (fault.DiskFailed disk)) = ⊥
