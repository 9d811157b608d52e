-- Passed on from `lvm_core`.
pub use Rattle.lvm_core.proofs.CacheLemmas.{empty_names_none}
pub use Rattle.lvm_core.proofs.LeavesLemmas.{enters_one}
pub use Rattle.lvm_core.proofs.SettlingLemmas.{unused_markable}
