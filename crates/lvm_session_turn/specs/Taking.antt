-- The first event of a turn.
use Rattle.std.specs.Prelude.{◌≡◌, Option, Some, None}
use Rattle.lvm_session.specs.State.{State}
use Rattle.lvm_session.specs.Enabled.{first_event}
use Rattle.lvm_session.specs.declared.answers.Turned.{Turned}
use Rattle.lvm_session.specs.Turns.{OnMakes}

-- The first event that may be made is, unless it is a start and the power is found off; or there is none, and nothing has changed.
abbrev pub FirstMakes : State → State → Option Turned → Type 0
FirstMakes old new None = (first_event old.core ≡ None) × (new ≡ old)
FirstMakes old new (Some answer) = OnMakes old new answer
