-- Passed on from `lvm_transfer`.
pub use Rattle.lvm_write.specs.passed.Transfer.{TransferGives, flight_of, Moved}
