-- Passed on from `lvm_transfer`.
pub use Rattle.lvm_write.proofs.passed.Transfer.{out_flights, one_left}
