-- Passed on from `lvm_volumes`.
pub use Rattle.lvm_handover.proofs.passed.Volumes.{keeps_none, leaves_none}
