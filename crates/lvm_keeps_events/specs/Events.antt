-- Each event that a turn makes of a sound session leaves it sound.
use Rattle.lvm_session.specs.declared.event.Event.{Event}
use Rattle.lvm_session.specs.Turns.{Makes}
use Rattle.lvm_keeps.specs.Keeps.{KeepsSound}

abbrev pub EventsKeep : Type 0
EventsKeep = (it : Event) → KeepsSound (Makes it)
