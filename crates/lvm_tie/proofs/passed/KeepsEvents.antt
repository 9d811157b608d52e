-- Passed on from `lvm_keeps_events`.
pub use Rattle.lvm_keeps_events.proofs.CountsLemmas.{turn_counts}
pub use Rattle.lvm_keeps_events.proofs.TurnCallsLemmas.{some_position, turn_leaves_table}
pub use Rattle.lvm_keeps_events.proofs.ReadingLemmas.{turn_gets}
pub use Rattle.lvm_keeps_events.proofs.TellingLemmas.Frames.{copy_stays, marked_stays, note_stays, status_stays}
pub use Rattle.lvm_keeps_events.proofs.TellingLemmas.Telling.{turn_tells}
pub use Rattle.lvm_keeps_events.proofs.TurningLemmas.{turn_ends, turn_keeps}
