use Rattle.std.proofs.Common.{ℕ, Option, Some, None, sym, ◌∙◌, ap, arith}
use Rattle.std.specs.Prelude.{unwrap_or}
use Rattle.lvm_posts.specs.declared.posts.Post.{Post}
use Rattle.lvm_range_lines.proofs.TakingLemmas.Takings.{few_refused, off_all, off_first, off_gone, off_more, off_posted}
use Rattle.lvm_range_lines.proofs.waiting.take_off.Goals as goal

abbrev first_post : Post
first_post = record { asked = record { first = 0; pieces = 0; at = 0; mib = 0; place = 0 }; ended = None }

pub loop-post-init : goal.loop-post-init
loop-post-init c = off_first c.args.history.now c.args.posts.now c.new-answers.result c.new-answers.ensures c.requires.posted

pub take_closed-answer-requires-clause-answered : goal.take_closed-answer-requires-clause-answered
take_closed-answer-requires-clause-answered c = (off_gone c.args.history.now c.loop-post.history c.args.posts.now c.loop-post.post-index c.loop-post.answers first_post c.loop-post-test.true c.loop-post.invariant).answered

pub take_closed-answer-requires-clause-laid : goal.take_closed-answer-requires-clause-laid
take_closed-answer-requires-clause-laid c = (off_posted c.args.history.now c.loop-post.history c.args.posts.now c.loop-post.post-index c.loop-post.answers first_post c.loop-post-test.true c.loop-post.invariant).laid

pub with-answers-requires : goal.with-answers-requires
with-answers-requires c = few_refused c.loop-post.invariant.endings c.loop-post.answers c.loop-post.post-index _ c.loop-post.invariant.gathers c.loop-post.invariant.long c.loop-post-test.true c.requires.few

pub loop-post-preserved : goal.loop-post-preserved
loop-post-preserved c =
    let made = c.take_closed-answer.ensures in
    let gone = off_gone c.args.history.now c.loop-post.history c.args.posts.now c.loop-post.post-index c.loop-post.answers first_post c.loop-post-test.true c.loop-post.invariant in
    let votes_are = c.unwrap_or-have.ensures ∙ ap (λ (o : Option (ℕ × ℕ)). unwrap_or o (0, 0)) gone.ended in
    off_more c.args.history.now c.loop-post.history c.args.posts.now c.loop-post.post-index c.loop-post.answers first_post c.loop-post-test.true c.loop-post.invariant
    c.take_closed-answer.new.history c.unwrap_or-have.result c.take_closed-answer.result c.with-answers.result (gone.ended ∙ ap (λ (v : ℕ × ℕ). Some v) (sym votes_are)) made.entered made.ends made.keeps c.with-answers.ensures

pub returns : goal.returns
returns c =
    let over = c.loop-post-test.false in
    record {
      takes = off_all c.args.history.now c.loop-post.history c.args.posts.now c.loop-post.post-index c.loop-post.answers (omega (arith, over)) c.loop-post.invariant;
      rooms = c.loop-post.invariant.is;
      keeps = c.loop-post.invariant.keeps;
      later = c.loop-post.invariant.later;
    }
