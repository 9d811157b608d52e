-- Passed on from `lvm_posts`.
pub use Rattle.lvm_range_lines.specs.passed.Posts.{AreAnswered, Post}
