-- What the copying has passed of a write that isn't kept.
use Rattle.std.specs.Prelude.{◌≡◌, ℕ, true, false, Some, slice_get}
use Rattle.lvm_path.specs.declared.target.Target.{Target}
use Rattle.lvm_session.specs.declared.open.Open.{Open}
use Rattle.lvm_session.specs.declared.open.Power.TheVariants as power
use Rattle.lvm_session.specs.Judging.{group_in, is_caught, is_kept}
use Rattle.lvm_session.specs.State.{State}
use Rattle.lvm_session.specs.Requests.{wants_status}
use Rattle.lvm_session.specs.Sound.{IsSound}

-- In a sound session the copy that is being brought up hasn't passed the track group of a write whose transfers have all ended and which isn't kept, on any
-- of its targets.
abbrev pub LostIsUncaught : Type 0
LostIsUncaught =
    (s : State) (place : ℕ) (o : Open) → IsSound s → s.core.power ≡ power.On → slice_get s.core.requests place ≡ Some o → wants_status o.request.phase ≡ true
    → is_kept s.core o.request ≡ false → (number : ℕ) (t : Target) → slice_get o.request.targets.items number ≡ Some t → is_caught s.core (group_in s.core o.request.ask) t.pp ≡ false
