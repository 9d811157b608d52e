-- Passed on from `lvm_status`.
pub use Rattle.lvm_status.proofs.MarkingLemmas.{any_disk, left_again, left_same}
