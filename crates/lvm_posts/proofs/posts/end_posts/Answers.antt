use Rattle.std.proofs.Common.{◌≡◌, ◌+◌, ◌<◌, ◌++◌, suc, List, Some, None, drop, length, map, take, slice_index_or, slice_set, ◌∙◌, ap, arith}
use Rattle.lvm_posts.specs.declared.posts.Post.{Post}
use Rattle.lvm_posts.specs.Posts.{ended_with}
use Rattle.lvm_posts.proofs.PostsLemmas.{mapped_more}
use Rattle.lvm_posts.proofs.posts.end_posts.Goals as goal

pub loop-post-preserved : goal.loop-post-preserved
loop-post-preserved c =
    let old = c.args.posts.now in
    let i = c.loop-post.post-index in
    let d : Post = record { asked = record { first = 0; pieces = 0; at = 0; mib = 0; place = 0 }; ended = None } in
    let within : i < length old = c.loop-post-test.true in
    let next : suc i ≡ i + 1 = omega arith in
    ap (λ e. slice_set c.loop-post.posts i (record { asked = (slice_index_or c.loop-post.posts i d).asked; ended = Some e })) c.unwrap_or.ensures
    ∙ ap (λ (l : List Post). slice_set l i (ended_with c.args.have c.args.total (slice_index_or l i d))) c.loop-post.invariant
    ∙ mapped_more (ended_with c.args.have c.args.total) old i d within
    ∙ ap (λ n. map (ended_with c.args.have c.args.total) (take n old) ++ drop n old) next
