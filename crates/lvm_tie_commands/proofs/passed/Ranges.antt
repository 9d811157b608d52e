-- Passed on from `lvm_ranges`.
pub use Rattle.lvm_handover.proofs.passed.Ranges.{answered_for, counted_since, ended_well, going_cause, off_votes, range_cause, reads_on, room_first, rows_stay, table_same, table_then, turn_table}
