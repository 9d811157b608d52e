-- Passed on from `lvm_transfer`.
pub use Rattle.lvm_quorum.specs.passed.Transfer.{Moved, TransferGives, flight_of}
