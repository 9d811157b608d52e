-- Passed on from `lvm_core`.
pub use Rattle.lvm_core.proofs.CacheLemmas.{empty_names_none}
pub use Rattle.lvm_core.proofs.SoundLemmas.Dark.{landed_still}
pub use Rattle.lvm_core.proofs.SoundLemmas.Settling.{starts_numbered, starts_settled}
