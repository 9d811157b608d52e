-- Passed on from `lvm_ranges`.
pub use Rattle.lvm_ranges.proofs.FinishingLemmas.{counted_since, going_cause, off_votes, range_cause, rows_stay}
pub use Rattle.lvm_ranges.proofs.KeepingLemmas.Finishing.{ended_well}
pub use Rattle.lvm_ranges.proofs.KeepingLemmas.Growing.{reads_on}
pub use Rattle.lvm_ranges.proofs.KeepingLemmas.Tables.{table_same, table_then, turn_table}
pub use Rattle.lvm_ranges.proofs.PiecesLemmas.{room_first}
pub use Rattle.lvm_ranges.proofs.TakingLemmas.{answered_for}
