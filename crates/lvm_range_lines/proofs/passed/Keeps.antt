-- Passed on from `lvm_keeps`.
pub use Rattle.lvm_keeps.proofs.KeepsLemmas.Losing.{loss_is_caused}
