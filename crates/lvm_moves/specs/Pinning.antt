-- The pinning of track groups.
use Rattle.std.specs.Prelude.{◌≡◌, ℕ, Bool, true, false, Some, None, slice_get}
use Rattle.lvm_disk.specs.Device.{Device}
use Rattle.lvm_session.specs.declared.event.Event.TheVariants as event
use Rattle.lvm_session.specs.declared.open.Open.{Open}
use Rattle.lvm_session.specs.State.{Core, state}
use Rattle.lvm_session.specs.Enabled.{may_pin, pinning}
use Rattle.lvm_session.specs.Events.{Pins}
use Rattle.lvm_session.specs.Turns.{Makes}

-- The request at a place has pinned its track group; or it may not, and nothing has changed.
abbrev pub PinsAt : Core → Core → ℕ → Bool → Type 0
PinsAt old new place true = (device : Device) → Pins (state device old) (state device new) place
PinsAt old new place false = (new ≡ old) × ((o : Open) → slice_get old.requests place ≡ Some o → may_pin old o ≡ false)

-- The first request that may has pinned its track group; or there is none, and nothing has changed.
abbrev pub PinGives : Core → Core → Bool → Type 0
PinGives old new true = (place : ℕ) × (pinning old ≡ Some (event.Pin place)) × ((device : Device) → Makes (event.Pin place) (state device old) (state device new))
PinGives old new false = (pinning old ≡ None) × (new ≡ old)
