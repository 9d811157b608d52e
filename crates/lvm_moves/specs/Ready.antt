-- What a sound session that is on is ready for.
use Rattle.std.specs.Prelude.{◌≡◌, false, Some}
use Rattle.lvm_session.specs.declared.event.Event.{Event}
use Rattle.lvm_session.specs.declared.open.Power.TheVariants as power
use Rattle.lvm_session.specs.State.{State}
use Rattle.lvm_session.specs.Enabled.{first_of, is_lost, parts_to_start}
use Rattle.lvm_session.specs.Sound.{IsSound}
use Rattle.lvm_moves.specs.Launching.{HasFlight}
use Rattle.lvm_moves.specs.Starts.{CanStart}
use Rattle.lvm_moves.specs.Choosing.{MayChoose}

-- Where a transfer may be started, fewer are out than there are buffers.
abbrev pub FirstStartHasFlight : Type 0
FirstStartHasFlight = (s : State) (it : Event) → IsSound s → s.core.power ≡ power.On → first_of parts_to_start s.core ≡ Some it → HasFlight s.device s.core

-- The first transfer that may be started can be, while the votes are there.
abbrev pub FirstStartCan : Type 0
FirstStartCan = (s : State) (it : Event) → IsSound s → s.core.power ≡ power.On → is_lost s.core ≡ false → first_of parts_to_start s.core ≡ Some it → CanStart it s.device s.core

-- The targets of a request may be chosen.
abbrev pub SessionsMayChoose : Type 0
SessionsMayChoose = (s : State) → IsSound s → s.core.power ≡ power.On → MayChoose s.device s.core
