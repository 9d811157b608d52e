use Rattle.std.proofs.Common.{None, arith}
use Rattle.lvm_posts.specs.declared.posts.Post.{Post}
use Rattle.lvm_session.specs.State.{state_of}
use Rattle.lvm_range_lines.proofs.TakingLemmas.Takings.{enters_none, enters_then, few_refused, none_own, on_all, on_first, on_more, posted_next}
use Rattle.lvm_range_lines.proofs.waiting.take_at_rest.Goals as goal

abbrev first_post : Post
first_post = record { asked = record { first = 0; pieces = 0; at = 0; mib = 0; place = 0 }; ended = None }

pub loop-post-init : goal.loop-post-init
loop-post-init g c = record {
  so_far = on_first (state_of g.S.Shelf.device c.args.driver) c.args.posts.now c.new-answers.result c.new-answers.ensures c.requires.posted (none_own c.args.driver.1 c.args.posts.now (state_of g.S.Shelf.device c.args.driver) c.requires.none c.requires.posted) c.requires.on;
  none = c.requires.none;
  sound = c.requires.sound;
  enters = enters_none (state_of g.S.Shelf.device c.args.driver);
}

pub take_one_at_rest-next-requires-clause-on : goal.take_one_at_rest-next-requires-clause-on
take_one_at_rest-next-requires-clause-on g c = c.loop-post.invariant.so_far.on

pub take_one_at_rest-next-requires-clause-none : goal.take_one_at_rest-next-requires-clause-none
take_one_at_rest-next-requires-clause-none g c = c.loop-post.invariant.none

pub take_one_at_rest-next-requires-clause-sound : goal.take_one_at_rest-next-requires-clause-sound
take_one_at_rest-next-requires-clause-sound g c = c.loop-post.invariant.sound

pub take_one_at_rest-next-requires-clause-posted : goal.take_one_at_rest-next-requires-clause-posted
take_one_at_rest-next-requires-clause-posted g c = posted_next (state_of g.S.Shelf.device c.args.driver) (state_of g.S.Shelf.device c.loop-post.driver) c.args.posts.now c.loop-post.post-index c.loop-post.answers first_post c.loop-post-test.true c.loop-post.invariant.so_far

pub with-answers-requires : goal.with-answers-requires
with-answers-requires g c = few_refused c.loop-post.invariant.so_far.endings c.loop-post.answers c.loop-post.post-index _ c.loop-post.invariant.so_far.gathers c.loop-post.invariant.so_far.long c.loop-post-test.true c.requires.few

pub loop-post-preserved : goal.loop-post-preserved
loop-post-preserved g c =
    let device = g.S.Shelf.device in
    let made = c.take_one_at_rest-next.ensures in
    record {
      so_far = on_more (state_of device c.args.driver) (state_of device c.loop-post.driver) c.args.posts.now c.loop-post.post-index c.loop-post.answers first_post c.loop-post-test.true c.loop-post.invariant.so_far
          (state_of device c.take_one_at_rest-next.result.0) c.take_one_at_rest-next.result.1 c.with-answers.result made.takes made.left made.runs made.on c.with-answers.ensures;
      none = made.none;
      sound = made.sound;
      enters = enters_then (state_of device c.args.driver) (state_of device c.loop-post.driver) (state_of device c.take_one_at_rest-next.result.0) c.loop-post.invariant.enters made.enters;
    }

pub returns : goal.returns
returns g c =
    let device = g.S.Shelf.device in
    let over = c.loop-post-test.false in
    record {
      takes = on_all (state_of device c.args.driver) (state_of device c.loop-post.driver) c.args.posts.now c.loop-post.post-index c.loop-post.answers (omega (arith, over)) c.loop-post.invariant.so_far;
      runs = c.loop-post.invariant.so_far.runs;
      on = c.loop-post.invariant.so_far.on;
      sound = c.loop-post.invariant.sound;
      enters = c.loop-post.invariant.enters;
    }
