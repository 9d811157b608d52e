-- Passed on from `lvm_keeps`.
pub use Rattle.lvm_keeps.proofs.SoundLemmas.Telling.{open_still}
