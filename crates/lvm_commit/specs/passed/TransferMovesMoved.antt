-- Passed on from the crates below.
pub use Rattle.lvm_write.specs.passed.TransferMovesMoved.{Dark, Done, Failed, Stuck}
