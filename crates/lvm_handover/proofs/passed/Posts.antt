-- Passed on from `lvm_posts`.
pub use Rattle.lvm_ranges.proofs.passed.Posts.{over_answered}
