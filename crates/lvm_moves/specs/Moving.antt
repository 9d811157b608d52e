-- The first event of a part of a turn.
use Rattle.std.specs.Prelude.{◌≡◌, Bool, true, false, Some, None}
use Rattle.lvm_disk.specs.Device.{Device}
use Rattle.lvm_session.specs.declared.event.Event.{Event}
use Rattle.lvm_session.specs.State.{Core, state}
use Rattle.lvm_session.specs.Enabled.{Part}
use Rattle.lvm_session.specs.Turns.{Makes}

-- The first event of the part is made; or there is none, and nothing has changed.
abbrev pub FirstGives : Part → Device → Core → Core → Bool → Type 0
FirstGives part device old new true = (it : Event) × (part old ≡ Some it) × Makes it (state device old) (state device new)
FirstGives part device old new false = (part old ≡ None) × (new ≡ old)
