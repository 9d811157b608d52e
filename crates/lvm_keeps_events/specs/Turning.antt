-- What a turn of a sound session leaves.
use Rattle.std.specs.Prelude.{◌≡◌, ◌<◌, Bool, true, false}
use Rattle.lvm_session.specs.State.{State}
use Rattle.lvm_session.specs.declared.answers.Turned.{Turned}
use Rattle.lvm_session.specs.declared.answers.Turned.TheVariants as turned
use Rattle.lvm_session.specs.Turns.{TurnMakes}
use Rattle.lvm_session.specs.Causes.{is_over}
use Rattle.lvm_session.specs.Left.{left_of}
use Rattle.lvm_session.specs.Sound.{IsSound}

-- Each turn leaves it sound.
abbrev pub TurnKeeps : Type 0
TurnKeeps = (old new : State) (answer : Turned) → IsSound old → TurnMakes old new answer → IsSound new

-- Each turn leaves less work that has moved.
abbrev pub TurnFalls : Type 0
TurnFalls = (old new : State) → IsSound old → TurnMakes old new turned.Moved → left_of new.core < left_of old.core

-- the answer says that the session is over
abbrev pub is_last : Turned → Bool
is_last turned.Moved = false
is_last turned.Idle = false
is_last turned.Dark = true
is_last turned.Off = true

-- So it is then, and sound.
abbrev pub TurnEnds : Type 0
TurnEnds = (old new : State) (answer : Turned) → IsSound old → TurnMakes old new answer → is_last answer ≡ true → IsSound new × (is_over new.core.power ≡ true)
