-- Passed on from `lvm_keeps_events`.
pub use Rattle.lvm_ranges.proofs.passed.KeepsEvents.{loses_both, loses_none, turn_counts, turn_keeps, turn_loses, turn_marks, votes_go}
