use Rattle.std.proofs.Common.{None, arith}
use Rattle.lvm_posts.specs.declared.posts.Post.{Post}
use Rattle.lvm_session.specs.State.{state_of}
use Rattle.lvm_group_lines.proofs.passed.Tie.{path_frames}
use Rattle.lvm_range_lines.proofs.TakingLemmas.Takings.{few_refused, landed_next, on_all, on_first, on_more, posted_next}
use Rattle.lvm_range_lines.proofs.waiting.take_on.Goals as goal

abbrev first_post : Post
first_post = record { asked = record { first = 0; pieces = 0; at = 0; mib = 0; place = 0 }; ended = None }

pub loop-post-init : goal.loop-post-init
loop-post-init g c = on_first (state_of g.S.Shelf.device c.args.driver) c.args.posts.now c.new-answers.result c.new-answers.ensures c.requires.posted c.requires.landed c.requires.on

pub take_one-next-requires-clause-on : goal.take_one-next-requires-clause-on
take_one-next-requires-clause-on g c = c.loop-post.invariant.on

pub take_one-next-requires-clause-posted : goal.take_one-next-requires-clause-posted
take_one-next-requires-clause-posted g c = posted_next (state_of g.S.Shelf.device c.args.driver) (state_of g.S.Shelf.device c.loop-post.driver) c.args.posts.now c.loop-post.post-index c.loop-post.answers first_post c.loop-post-test.true c.loop-post.invariant

pub take_one-next-requires-clause-landed : goal.take_one-next-requires-clause-landed
take_one-next-requires-clause-landed g c = landed_next (state_of g.S.Shelf.device c.args.driver) (state_of g.S.Shelf.device c.loop-post.driver) c.args.posts.now c.loop-post.post-index c.loop-post.answers first_post c.loop-post-test.true c.loop-post.invariant

pub with-answers-requires : goal.with-answers-requires
with-answers-requires g c = few_refused c.loop-post.invariant.endings c.loop-post.answers c.loop-post.post-index _ c.loop-post.invariant.gathers c.loop-post.invariant.long c.loop-post-test.true c.requires.few

pub loop-post-preserved : goal.loop-post-preserved
loop-post-preserved g c =
    let device = g.S.Shelf.device in
    let made = c.take_one-next.ensures in
    on_more (state_of device c.args.driver) (state_of device c.loop-post.driver) c.args.posts.now c.loop-post.post-index c.loop-post.answers first_post c.loop-post-test.true c.loop-post.invariant
    (state_of device c.take_one-next.result.0) c.take_one-next.result.1 c.with-answers.result made.takes made.left made.runs made.on c.with-answers.ensures

pub returns : goal.returns
returns g c =
    let device = g.S.Shelf.device in
    let over = c.loop-post-test.false in
    record {
      takes = on_all (state_of device c.args.driver) (state_of device c.loop-post.driver) c.args.posts.now c.loop-post.post-index c.loop-post.answers (omega (arith, over)) c.loop-post.invariant;
      runs = c.loop-post.invariant.runs;
      on = c.loop-post.invariant.on;
      sound = c.is_sound.ensures;
    }

pub take_one-next-requires-clause-unmoved : goal.take_one-next-requires-clause-unmoved
take_one-next-requires-clause-unmoved g c = (path_frames c.loop-post.invariant.runs).keeps.moves c.requires.unmoved
