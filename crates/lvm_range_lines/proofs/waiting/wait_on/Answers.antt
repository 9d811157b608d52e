use Rattle.std.proofs.Common.{◌≡◌, ◌-◌, List, sym, ◌∙◌, subst}
use Rattle.std.specs.Prelude.{All}
use Rattle.lvm_disk.specs.Counts.{RoseBy}
use Rattle.lvm_disk.specs.Paths.{Path}
use Rattle.lvm_session.specs.declared.open.Power.TheVariants as power
use Rattle.lvm_group_lines.specs.passed.Driver.{IsAny}
use Rattle.lvm_session.specs.State.{state_of}
use Rattle.lvm_group_lines.proofs.passed.Tie.{path_frames, stays_unstuck}
use Rattle.lvm_posts.specs.declared.posts.Post.{Post}
use Rattle.lvm_posts.specs.Pieces.{IsLaidOut}
use Rattle.lvm_group_lines.specs.declared.stage.Stage.{Stage}
use Rattle.lvm_group_lines.specs.Stages.{HaveRooms, SessionIsClosed}
use Rattle.lvm_range_lines.specs.Waiting.{AllHaveLanded, IsAwaited, TurnsForPosts}
use Rattle.lvm_range_lines.proofs.EndsLemmas.{none_moves}
use Rattle.lvm_range_lines.proofs.LeavingLemmas.Posting.{table_posts}
use Rattle.lvm_range_lines.proofs.TakingLemmas.Landed.{fits_on}
use Rattle.lvm_range_lines.proofs.WaitingLemmas.Waits.{landed_ends, vain_ends}
use Rattle.lvm_range_lines.proofs.waiting.wait_on.Goals as goal

pub await_posts-requires-clause-unstuck : goal.await_posts-requires-clause-unstuck
await_posts-requires-clause-unstuck g c stuck = let e : power.On ≡ power.Stuck = sym c.requires.between.session.power ∙ stuck in cc e

pub await_posts-requires-clause-laid : goal.await_posts-requires-clause-laid
await_posts-requires-clause-laid g c = subst (λ (ps : List Post). All (λ (post : Post). IsLaidOut post.asked) ps) (sym c.deref.ensures.value) (λ k d less. (c.requires.between.posted.each k d less).laid)

pub wait_landed-requires-clause-unstuck : goal.wait_landed-requires-clause-unstuck
wait_landed-requires-clause-unstuck g c =
    stays_unstuck c.args.driver.1 c.await_posts.new.driver.1 (path_frames c.await_posts.ensures.runs).keeps.power (λ stuck. let e : power.On ≡ power.Stuck = sym c.requires.between.session.power ∙ stuck in cc e)

pub wait_landed-requires-clause-fits : goal.wait_landed-requires-clause-fits
wait_landed-requires-clause-fits g c = fits_on g.S.Shelf.device c.args.driver c.args.posts c.args.bytes c.requires.fits c.await_posts.new.driver c.await_posts.ensures.runs c.args.posts c.requires.fits.rooms

pub wait_landed-requires-clause-posted : goal.wait_landed-requires-clause-posted
wait_landed-requires-clause-posted g c = table_posts c.args.driver.1 c.await_posts.new.driver.1 c.await_posts.ensures.table c.args.posts.items c.requires.between.posted

pub wait_landed-requires-clause-landed : goal.wait_landed-requires-clause-landed
wait_landed-requires-clause-landed g c = subst (λ (ps : List Post). AllHaveLanded ps (state_of g.S.Shelf.device c.await_posts.new.driver)) c.deref.ensures.value c.in-Ok.ensures.awaits.ends

pub wait_landed-requires-clause-few : goal.wait_landed-requires-clause-few
wait_landed-requires-clause-few g c = c.requires.few

pub returns-in-Ok : goal.returns-in-Ok
returns-in-Ok g c =
    let device = g.S.Shelf.device in
    let first = c.args.driver in
    let mid = c.await_posts.new.driver in
    let made = c.await_posts.ensures in
    let left = c.await_posts.new.patience.left in
    landed_ends device first c.args.posts c.args.bytes c.requires.fits c.requires.between mid
    (subst (λ (ps : List Post). Path (TurnsForPosts ps) IsAny (state_of device first) (state_of device mid)) c.deref.ensures.value made.awaits.turns) made.runs c.wait_landed.ensures.sound left
    (subst (λ n. RoseBy (n - left) (device first.0).counts.waits (device mid.0).counts.waits) c.whole-patience.ensures made.waited)
    (table_posts first.1 mid.1 made.table c.args.posts.items c.requires.between.posted)
    (subst (λ (ps : List Post). AllHaveLanded ps (state_of device mid)) c.deref.ensures.value c.in-Ok.ensures.awaits.ends)
    c.wait_landed.result.stage c.wait_landed.result.reply c.wait_landed.ensures.fits c.wait_landed.ensures.ends

pub returns-in-Err : goal.returns-in-Err
returns-in-Err g c =
    let device = g.S.Shelf.device in
    let first = c.args.driver in
    let mid = c.await_posts.new.driver in
    let made = c.await_posts.ensures in
    let left = c.await_posts.new.patience.left in
    let stage = c.refused.result.stage in
    let vain = c.in-Err.ensures.awaits.ends in
    vain_ends device first c.args.posts c.args.bytes c.requires.fits c.requires.between mid
    (subst (λ (ps : List Post). Path (TurnsForPosts ps) IsAny (state_of device first) (state_of device mid)) c.deref.ensures.value made.awaits.turns) made.runs c.is_sound.ensures left
    (subst (λ n. RoseBy (n - left) (device first.0).counts.waits (device mid.0).counts.waits) c.whole-patience.ensures made.waited)
    (table_posts first.1 mid.1 made.table c.args.posts.items c.requires.between.posted)
    (subst (λ (ps : List Post). IsAwaited ps (state_of device mid)) c.deref.ensures.value vain.0) vain.1
    stage (subst (λ (s : Stage g.row.S.Denot). SessionIsClosed device mid c.args.posts.items s) (sym c.refused.ensures.stage) c.ended.ensures.ended)
    (subst (λ (s : Stage g.row.S.Denot). HaveRooms first.1.history.room s.posts s.bytes) (sym c.refused.ensures.stage) (c.ended.ensures.rooms first.1.history.room c.requires.fits.rooms))
    c.refused.result.reply c.refused.ensures.reply

pub await_posts-requires-clause-unmoved : goal.await_posts-requires-clause-unmoved
await_posts-requires-clause-unmoved g c = none_moves c.args.driver.1 c.requires.between.session.copy

pub wait_landed-requires-clause-unmoved : goal.wait_landed-requires-clause-unmoved
wait_landed-requires-clause-unmoved g c = (path_frames c.await_posts.ensures.runs).keeps.moves (none_moves c.args.driver.1 c.requires.between.session.copy)
