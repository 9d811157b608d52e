-- Passed on from `lvm_line`.
pub use Rattle.lvm_line.proofs.CausesLemmas.Turns.{fails_counts, leaves_counts, over_counts}
pub use Rattle.lvm_line.proofs.CausesLemmas.Posting.{told_is_well}
pub use Rattle.lvm_line.proofs.CompleteLemmas.Completing.{lines_complete}
