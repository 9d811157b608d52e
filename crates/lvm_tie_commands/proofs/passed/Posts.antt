-- Passed on from `lvm_posts`.
pub use Rattle.lvm_handover.proofs.passed.Posts.{over_answered}
