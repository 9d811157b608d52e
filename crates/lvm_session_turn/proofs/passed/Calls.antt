-- Passed on from `lvm_calls`.
pub use Rattle.lvm_calls.proofs.BringingLemmas.{markable}
pub use Rattle.lvm_calls.proofs.MarksLemmas.{same_due}
