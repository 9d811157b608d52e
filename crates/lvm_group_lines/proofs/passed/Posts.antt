-- Passed on from `lvm_posts`.
pub use Rattle.lvm_tie_commands.proofs.passed.Posts.{over_answered}
