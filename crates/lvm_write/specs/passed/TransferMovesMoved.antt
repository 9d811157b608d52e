-- Passed on from the crates below.
pub use Rattle.lvm_quorum.specs.passed.TransferMovesMoved.{Dark, Done, Failed, Stuck}
