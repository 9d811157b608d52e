-- Passed on from `lvm_posts`.
pub use Rattle.lvm_posts.specs.Posts.{AreAnswered, AreHeld, ended_with}
pub use Rattle.lvm_posts.specs.declared.asked.Asked.{Asked}
pub use Rattle.lvm_posts.specs.declared.posts.Post.{Post}
