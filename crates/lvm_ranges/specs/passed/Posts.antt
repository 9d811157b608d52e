-- Passed on from `lvm_posts`.
pub use Rattle.lvm_posts.specs.Deciding.{RangeEnds}
pub use Rattle.lvm_posts.specs.Pieces.{IsLaidOut}
pub use Rattle.lvm_posts.specs.Posts.{AreAnswered, AreHeld, ended_with, takings}
pub use Rattle.lvm_posts.specs.declared.asked.Asked.{Asked}
pub use Rattle.lvm_posts.specs.declared.posts.Post.{Post}
