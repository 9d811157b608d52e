-- Passed on from `lvm_ranges`.
pub use Rattle.lvm_group_lines.proofs.passed.Ranges.{off_votes, table_same, table_then, turn_table}
