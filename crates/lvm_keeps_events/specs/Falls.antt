-- The start of a transfer leaves less work.
use Rattle.std.specs.Prelude.{◌≡◌, ◌<◌, ℕ, false}
use Rattle.lvm_session.specs.declared.open.Power.TheVariants as power
use Rattle.lvm_session.specs.State.{State}
use Rattle.lvm_session.specs.Enabled.{is_lost}
use Rattle.lvm_session.specs.Events.{StartsData, StartsStatus, WritesCopy}
use Rattle.lvm_session.specs.Left.{left_of}
use Rattle.lvm_session.specs.Sound.{IsSound}

-- while the votes are there, an event of a session that is on leaves less work
abbrev pub Falls : (State → State → Type 0) → Type 0
Falls Event = (old new : State) → IsSound old → old.core.power ≡ power.On → is_lost old.core ≡ false → Event old new → left_of new.core < left_of old.core

abbrev pub CopyWriteFalls : Type 0
CopyWriteFalls = Falls WritesCopy

abbrev pub DataStartFalls : Type 0
DataStartFalls = (place target : ℕ) → Falls (λ old new. StartsData old new place target)

abbrev pub StatusStartFalls : Type 0
StatusStartFalls = Falls StartsStatus
