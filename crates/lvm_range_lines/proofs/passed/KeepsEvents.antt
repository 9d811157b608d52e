-- Passed on from `lvm_keeps_events`.
pub use Rattle.lvm_group_lines.proofs.passed.KeepsEvents.{turn_counts, turn_keeps, loses_both, loses_none, turn_loses, votes_go, turn_marks}
