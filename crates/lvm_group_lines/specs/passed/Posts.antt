-- Passed on from `lvm_posts`.
pub use Rattle.lvm_tie_commands.specs.passed.Posts.{AreAnswered, AreHeld, Asked, Post, ended_with}
