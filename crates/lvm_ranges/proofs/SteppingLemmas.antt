-- So many turns.
use Rattle.std.proofs.Common.{◌≡◌, ◌<◌, ◌+◌, ℕ}
use Rattle.lvm_session.specs.declared.open.Power.TheVariants as power
use Rattle.lvm_session.specs.declared.answers.Turned.{Turned}
use Rattle.lvm_session.specs.declared.answers.Turned.TheVariants as turned
use Rattle.lvm_session.specs.State.{State}
use Rattle.lvm_session.specs.Sound.{IsSound}
use Rattle.lvm_session.specs.Turns.{TurnMakes}
use Rattle.lvm_driver.specs.passed.Going.{RunsOn}
use Rattle.lvm_driver.specs.passed.KeepsEvents.{TurnTells}
use Rattle.lvm_ranges.specs.Stepping.{LastEnded, MovesTurns, NoMove, OneMove, SteppingEnds}
use Rattle.lvm_ranges.proofs.LandingLemmas.{GoesWith, at_first, with_turn}

-- so many turns have moved
pub record StepsSoFar (first now : State) (n : ℕ) : Type 0 where
  pub moves : MovesTurns first n now
  pub on : GoesWith first now

pub no_step : (first : State) → (first.core.power ≡ power.Stuck → ⊥) → StepsSoFar first first 0
no_step first unstuck = record { moves = NoMove; on = at_first first unstuck }

module _ (first old new : State) (n : ℕ) (so_far : StepsSoFar first old n) where
  pub one_step : IsSound old → TurnMakes old new turned.Moved → TurnTells old new turned.Moved → RunsOn old new → StepsSoFar first new (n + 1)
  one_step sound made tells runs = record { moves = OneMove so_far.moves made; on = with_turn first old new turned.Moved so_far.on sound made tells runs }

  pub last_step : (how : Turned) (turns : ℕ) → n < turns → TurnMakes old new how → TurnTells old new how → (how ≡ turned.Moved → ⊥) → SteppingEnds turns first new n how
  last_step how turns less made tells still = LastEnded old less so_far.moves made tells still
