use Rattle.std.proofs.Common.{◌<◌, ◌^◌, List, Option, None, length, sym, ◌∙◌, ap, subst, arith}
use Rattle.lvm_vol.specs.Log.{Log}
use Rattle.lvm_session.specs.State.{Core}
use Rattle.lvm_posts.specs.declared.posts.Post.{Post}
use Rattle.lvm_group_lines.specs.Stages.{HaveRooms, history_in, posts_ended}
use Rattle.lvm_group_lines.specs.State.{ArePosted}
use Rattle.lvm_range_lines.specs.Answers.{Tells}
use Rattle.lvm_range_lines.proofs.WaitingLemmas.Behind.{fits_behind, is_behind}
use Rattle.lvm_range_lines.proofs.waiting.wait_off.Goals as goal

pub take_off-answers-requires-clause-posted : goal.take_off-answers-requires-clause-posted
take_off-answers-requires-clause-posted g c =
    let closed = c.close-shelf.ensures in
    let items = c.deref.ensures.value ∙ closed.posts ∙ ap (λ (on : Option Core). posts_ended on c.args.stage.posts.items) c.requires.off in
    subst (λ (ps : List Post). ArePosted c.close-shelf.result.0.history.facts None ps) (sym items) (subst (λ (log : Log). ArePosted log.facts None c.args.stage.posts.items) (sym closed.history) c.requires.posted)

pub take_off-answers-requires-clause-few : goal.take_off-answers-requires-clause-few
take_off-answers-requires-clause-few g c =
    let items = c.deref.ensures.value ∙ c.close-shelf.ensures.posts ∙ ap (λ (on : Option Core). posts_ended on c.args.stage.posts.items) c.requires.off in
    subst (λ (ps : List Post). length ps < 2 ^ 32) (sym items) c.requires.few

pub returns : goal.returns
returns g c =
    let device = g.S.Shelf.device in
    let closed = c.close-shelf.ensures in
    let taken = c.take_off-answers.ensures in
    let items = c.deref.ensures.value ∙ closed.posts ∙ ap (λ (on : Option Core). posts_ended on c.args.stage.posts.items) c.requires.off in
    let rooms = closed.rooms (history_in c.args.stage).room c.requires.fits.rooms in
    let rooms1 : HaveRooms (history_in c.args.stage).room c.clear.new.self c.close-shelf.result.2 = record { for_posts = let low = rooms.for_posts in let same = c.clear.ensures.capacity in omega (arith, low, same); for_bytes = rooms.for_bytes } in
    record {
      waits = is_behind device c.args.stage c.requires.off c.requires.fits c.close-shelf.result.0.shelf c.close-shelf.result.0.history c.take_off-answers.new.history c.deref.result.now c.clear.new.self c.close-shelf.result.2 c.take_off-answers.result
          c.answered.result.stage c.answered.result.reply (closed.off c.requires.off) closed.history items taken.takes taken.rooms taken.keeps taken.later
          (λ endings gathers. subst (Tells endings) (sym c.answered.ensures.reply) (c.reply.ensures endings gathers)) c.clear.ensures.items rooms1 (c.answered.ensures.stage ∙ c.off.ensures);
      fits = fits_behind device c.args.stage c.requires.off c.requires.fits c.close-shelf.result.0.shelf c.close-shelf.result.0.history c.take_off-answers.new.history c.deref.result.now c.clear.new.self c.close-shelf.result.2 c.take_off-answers.result
          c.answered.result.stage c.answered.result.reply (closed.off c.requires.off) closed.history items taken.takes taken.rooms taken.keeps taken.later
          (λ endings gathers. subst (Tells endings) (sym c.answered.ensures.reply) (c.reply.ensures endings gathers)) c.clear.ensures.items rooms1 (c.answered.ensures.stage ∙ c.off.ensures);
    }
