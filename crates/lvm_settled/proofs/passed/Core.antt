-- Passed on from `lvm_core`.
pub use Rattle.lvm_core.proofs.CacheLemmas.{empty_names_none}
