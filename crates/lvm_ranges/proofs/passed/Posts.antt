-- Passed on from `lvm_posts`.
pub use Rattle.lvm_posts.proofs.PostsLemmas.{over_answered}
