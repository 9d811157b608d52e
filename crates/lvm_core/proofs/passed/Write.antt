-- Passed on from `lvm_write`.
pub use Rattle.lvm_write.proofs.PartsLemmas.Transfers.{darkened_then, given_up_then, keeps_here, keeps_then, spends_none, spends_then}
