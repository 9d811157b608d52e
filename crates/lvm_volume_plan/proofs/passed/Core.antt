-- Passed on from `lvm_core`.
pub use Rattle.lvm_core.proofs.LeavesLemmas.{enters_one, keeps_fact, keeps_same, same_status}
pub use Rattle.lvm_core.proofs.SoundLemmas.Dark.{cut_core, dark_is}
pub use Rattle.lvm_core.proofs.StepsLemmas.Marking.{pp_is}
