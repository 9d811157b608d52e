-- So many turns, or fewer where one doesn't move.
use Rattle.std.specs.Prelude.{◌≡◌, ◌<◌, ◌+◌, ℕ}
use Rattle.lvm_session.specs.declared.answers.Turned.{Turned}
use Rattle.lvm_session.specs.declared.answers.Turned.TheVariants as turned
use Rattle.lvm_session.specs.State.{State}
use Rattle.lvm_session.specs.Turns.{TurnMakes}
use Rattle.lvm_driver.specs.passed.KeepsEvents.{TurnTells}

-- so many turns, each of which has moved
pub data MovesTurns (first : State) : ℕ → State → Type 0 where
  NoMove : MovesTurns first 0 first
  OneMove : {n : ℕ} {old new : State} → MovesTurns first n old → TurnMakes old new turned.Moved → MovesTurns first (n + 1) new

-- All turns that were asked for have moved; or so many have, and one more, which answered otherwise, was the last.
pub data SteppingEnds (turns : ℕ) (old new : State) (moved : ℕ) (how : Turned) : Type 0 where
  AllMoved : moved ≡ turns → how ≡ turned.Moved → MovesTurns old moved new → SteppingEnds turns old new moved how
  LastEnded : (mid : State) → moved < turns → MovesTurns old moved mid → TurnMakes mid new how → TurnTells mid new how → (how ≡ turned.Moved → ⊥) → SteppingEnds turns old new moved how
