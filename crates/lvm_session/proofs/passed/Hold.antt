-- Passed on from `lvm_hold`.
pub use Rattle.lvm_hold.proofs.OrderLemmas.{blocked_tells}
