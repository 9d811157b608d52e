-- Passed on from `lvm_volumes`.
pub use Rattle.lvm_tie_commands.proofs.passed.Volumes.{keeps_none, leaves_none}
