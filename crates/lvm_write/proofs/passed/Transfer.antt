-- Passed on from `lvm_transfer`.
pub use Rattle.lvm_quorum.proofs.passed.Transfer.{one_left, out_flights}
