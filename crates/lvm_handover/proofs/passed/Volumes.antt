-- Passed on from `lvm_volumes`.
pub use Rattle.lvm_volumes.proofs.DescriptorLemmas.{free_of}
pub use Rattle.lvm_volumes.proofs.EndingsLemmas.Fresh.{keeps_none}
pub use Rattle.lvm_volumes.proofs.Leaving.{leaves_none}
