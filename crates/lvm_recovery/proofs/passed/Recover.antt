-- Passed on from `lvm_recover`.
pub use Rattle.lvm_recover.proofs.BeginningLemmas.{next_leaves_none}
pub use Rattle.lvm_recover.proofs.Showing.{shows_other}
