-- Passed on from `lvm_kept`.
pub use Rattle.lvm_kept.proofs.PlansLemmas.{further, then_disks}
pub use Rattle.lvm_kept.proofs.TornLemmas.Records.{descriptor_shows, never, status_shows, whole_is_new, wider}
