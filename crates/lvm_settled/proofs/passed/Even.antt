-- Passed on from `lvm_even`.
pub use Rattle.lvm_even.proofs.Rows.{mib_positive}
pub use Rattle.lvm_even.proofs.MarkingLemmas.{none_is_left_behind}
