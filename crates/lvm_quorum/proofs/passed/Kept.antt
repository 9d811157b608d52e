-- Passed on from `lvm_kept`.
pub use Rattle.lvm_transfer.proofs.passed.Kept.{descriptor_shows, further, never, status_shows, then_disks, whole_is_new, wider}
