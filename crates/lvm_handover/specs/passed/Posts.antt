-- Passed on from `lvm_posts`.
pub use Rattle.lvm_ranges.specs.passed.Posts.{AreAnswered, AreHeld, Asked, IsLaidOut, Post, ended_with}
