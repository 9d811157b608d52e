use Rattle.std.proofs.Common.{◌≡◌, ◌++◌, drop, map, take}
use Rattle.lvm_posts.specs.Posts.{ended_with}
use Rattle.lvm_posts.proofs.posts.end_posts.Given as goal

abbrev pub invariant-loop-post : goal.invariant-loop-post
invariant-loop-post l = l.posts ≡ map (ended_with l.have l.total) (take l.post-index l.fn.posts) ++ drop l.post-index l.fn.posts
