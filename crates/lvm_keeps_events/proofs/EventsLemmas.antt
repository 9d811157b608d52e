-- Each event that a turn makes of a sound session leaves it sound.
use Rattle.lvm_session.specs.declared.event.Event.TheVariants as event
use Rattle.lvm_keeps.proofs.KeepsLemmas.CopyRead.{copy_read_keeps}
use Rattle.lvm_keeps.proofs.KeepsLemmas.NoteStart.{note_start_keeps}
use Rattle.lvm_keeps.proofs.KeepsLemmas.Pin.{pin_keeps}
use Rattle.lvm_keeps_events.proofs.KeepsLemmas.CopyWrite.{copy_write_keeps}
use Rattle.lvm_keeps_events.proofs.KeepsLemmas.DataStart.{data_start_keeps}
use Rattle.lvm_keeps_events.proofs.KeepsLemmas.StatusStart.{status_start_keeps}
use Rattle.lvm_keeps_events.proofs.KeepsLemmas.Admission.{admission_keeps}
use Rattle.lvm_keeps_events.proofs.KeepsLemmas.Landing.{landing_keeps}
use Rattle.lvm_keeps_events.specs.Events.{EventsKeep}

pub events_keep : EventsKeep
events_keep (event.Land place how) old new sound on made = landing_keeps place how old new sound on made
events_keep (event.Admit place) old new sound on made = admission_keeps place old new sound on made
events_keep (event.Pin place) old new sound on made = pin_keeps place old new sound on made
events_keep event.StartStatus old new sound on made = status_start_keeps old new sound on made
events_keep (event.StartNote place disk) old new sound on made = note_start_keeps place disk old new sound on made
events_keep (event.StartData place target) old new sound on made = data_start_keeps place target old new sound on made
events_keep event.ReadCopy old new sound on made = copy_read_keeps old new sound on made
events_keep event.WriteCopy old new sound on made = copy_write_keeps old new sound on made
