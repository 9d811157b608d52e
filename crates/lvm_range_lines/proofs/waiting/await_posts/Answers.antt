use Rattle.std.proofs.Common.{None, arith}
use Rattle.lvm_posts.specs.declared.posts.Post.{Post}
use Rattle.lvm_session.specs.State.{state_of}
use Rattle.lvm_group_lines.proofs.passed.Tie.{path_frames, stays_unstuck}
use Rattle.lvm_range_lines.proofs.TakingLemmas.Awaiting.{all_awaited, none_awaited, one_awaited, one_in_vain, runs_now, table_now, waited_now}
use Rattle.lvm_range_lines.proofs.waiting.await_posts.Goals as goal

abbrev first_post : Post
first_post = record { asked = record { first = 0; pieces = 0; at = 0; mib = 0; place = 0 }; ended = None }

pub loop-post-init : goal.loop-post-init
loop-post-init g c = none_awaited c.args.posts.now (state_of g.S.Shelf.device c.args.driver.now) c.args.patience.now.left

pub await_post-requires-clause-unstuck : goal.await_post-requires-clause-unstuck
await_post-requires-clause-unstuck g c = stays_unstuck c.args.driver.now.1 c.loop-post.driver.1 (path_frames c.loop-post.invariant.runs).keeps.power c.requires.unstuck

pub await_post-requires-clause-laid : goal.await_post-requires-clause-laid
await_post-requires-clause-laid g c = c.requires.laid c.loop-post.post-index first_post c.loop-post-test.true

pub loop-post-preserved : goal.loop-post-preserved
loop-post-preserved g c =
    let device = g.S.Shelf.device in
    let made = c.in-Ok.ensures in
    one_awaited c.args.posts.now (state_of device c.args.driver.now) (state_of device c.loop-post.driver) (state_of device c.await_post.new.driver) c.args.patience.now.left c.loop-post.patience.left c.await_post.new.patience.left
    c.loop-post.post-index first_post c.loop-post-test.true c.loop-post.invariant made.table made.runs made.patience made.waited made.awaits

pub returns : goal.returns
returns g c =
    let device = g.S.Shelf.device in
    let over = c.loop-post-test.false in
    record {
      awaits = all_awaited c.args.posts.now (state_of device c.args.driver.now) (state_of device c.loop-post.driver) c.args.patience.now.left c.loop-post.patience.left c.loop-post.post-index (omega (arith, over)) c.loop-post.invariant;
      table = c.loop-post.invariant.table;
      runs = c.loop-post.invariant.runs;
      waited = c.loop-post.invariant.waited;
    }

pub returns-in-Err : goal.returns-in-Err
returns-in-Err g c =
    let device = g.S.Shelf.device in
    let made = c.in-Err.ensures in
    let first = state_of device c.args.driver.now in
    let old = state_of device c.loop-post.driver in
    let new = state_of device c.await_post.new.driver in
    let patience = c.args.patience.now.left in
    let so_far = c.loop-post.invariant in
    record {
      awaits = one_in_vain c.args.posts.now first old new patience c.loop-post.patience.left c.await_post.new.patience.left c.loop-post.post-index first_post c.loop-post-test.true so_far made.table made.runs made.patience made.waited c.in-Err.why made.awaits;
      table = table_now c.args.posts.now first old new patience c.loop-post.patience.left c.await_post.new.patience.left c.loop-post.post-index first_post c.loop-post-test.true so_far made.table made.runs made.patience made.waited;
      runs = runs_now c.args.posts.now first old new patience c.loop-post.patience.left c.await_post.new.patience.left c.loop-post.post-index first_post c.loop-post-test.true so_far made.table made.runs made.patience made.waited;
      waited = waited_now c.args.posts.now first old new patience c.loop-post.patience.left c.await_post.new.patience.left c.loop-post.post-index first_post c.loop-post-test.true so_far made.table made.runs made.patience made.waited;
    }

pub await_post-requires-clause-unmoved : goal.await_post-requires-clause-unmoved
await_post-requires-clause-unmoved g c = (path_frames c.loop-post.invariant.runs).keeps.moves c.requires.unmoved
