-- Passed on from `lvm_core`.
pub use Rattle.lvm_core.proofs.SoundLemmas.Dark.{cut_landed}
