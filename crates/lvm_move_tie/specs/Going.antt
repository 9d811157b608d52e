-- A good session whose move is done goes on over its commit, whatever that answers.
use Rattle.std.specs.Prelude.{◌≡◌, ◌≢◌, ℕ, List, Result}
use Rattle.lvm_vol.specs.Facts.{Fact}
use Rattle.lvm_kept.specs.Moments.{Moment}
use Rattle.lvm_steps.specs.Moments.{RunBegins, SpanGoesOn}
use Rattle.lvm_commit.specs.LawsOfFinding.{FindsNoMoreOn}
use Rattle.lvm_core.specs.declared.fault.CommitFault.{CommitFault}
use Rattle.lvm_session.specs.declared.bringing.OpenCopy.{OpenCopy}
use Rattle.lvm_session.specs.declared.open.Power.TheVariants as power
use Rattle.lvm_session.specs.State.{State, moment_of}
use Rattle.lvm_session.specs.Sound.{IsSound}
use Rattle.lvm_going.specs.Going.{CommitsOpenMove}
use Rattle.lvm_move_keeps.specs.Drained.{IsDrainedMoving}
use Rattle.lvm_tie.specs.Spares.{SparesDescriptors}
use Rattle.lvm_tie.specs.Tied.{IsTied}
use Rattle.lvm_move_tie.specs.Taking.{next_group}

-- From this moment of its run it is tied while it is on, and its newest descriptors are spared.
abbrev pub IsGoodSparing : ℕ → Moment → State → Type 0
IsGoodSparing run first s = s.core.power ≡ power.On → (past : List Fact) → RunBegins run past first → IsTied past s × SparesDescriptors s

-- From whatever moment its run is told: such a session is so after it, and a span goes on over what happens.
abbrev pub SparingGoesOn : ℕ → State → State → Type 0
SparingGoesOn run old new = (first : Moment) → IsGoodSparing run first old → IsGoodSparing run first new × SpanGoesOn run first (moment_of old) (moment_of new)

-- So it is over the commit, whatever is answered: at each moment the history is legal, and each crash image kept with it.
abbrev pub CommitMoveGoesOn : Type 0
CommitMoveGoesOn =
    (run : ℕ) (s new : State) (c : OpenCopy) (before after : ℕ) (answer : Result (Unit {0}) CommitFault) → IsSound s → IsSound new → IsDrainedMoving s c → s.core.status.stamp.epoch ≢ 0
    → CommitsOpenMove before after s new answer → SparingGoesOn run s new

-- Whatever is answered, each crash image that finds a descriptor finds one that was found before, or the next one.
abbrev pub CommitMoveFinds : Type 0
CommitMoveFinds =
    (past : List Fact) (s new : State) (c : OpenCopy) (before after : ℕ) (answer : Result (Unit {0}) CommitFault) → IsTied past s → IsDrainedMoving s c → s.core.status.stamp.epoch ≢ 0 → SparesDescriptors s
    → CommitsOpenMove before after s new answer → FindsNoMoreOn (next_group s c) s.device new.device
