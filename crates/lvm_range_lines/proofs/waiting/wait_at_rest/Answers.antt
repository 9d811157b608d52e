use Rattle.std.proofs.Common.{◌<◌, ◌^◌, List, Some, length, sym, subst, arith}
use Rattle.lvm_session.specs.State.{state_of}
use Rattle.lvm_posts.specs.declared.posts.Post.{Post}
use Rattle.lvm_group_lines.specs.Stages.{HaveRooms}
use Rattle.lvm_group_lines.specs.State.{ArePosted}
use Rattle.lvm_range_lines.specs.Answers.{Tells}
use Rattle.lvm_range_lines.specs.Waiting.{TakesPosts}
use Rattle.lvm_range_lines.proofs.WaitingLemmas.Resting.{rest_ends}
use Rattle.lvm_range_lines.proofs.waiting.wait_at_rest.Goals as goal

pub take_at_rest-driver-requires-clause-on : goal.take_at_rest-driver-requires-clause-on
take_at_rest-driver-requires-clause-on g c = c.requires.between.session.power

pub take_at_rest-driver-requires-clause-none : goal.take_at_rest-driver-requires-clause-none
take_at_rest-driver-requires-clause-none g c = (c.requires.between.session.empty c.requires.fits.kind).quiet.requests

pub take_at_rest-driver-requires-clause-sound : goal.take_at_rest-driver-requires-clause-sound
take_at_rest-driver-requires-clause-sound g c = c.requires.between.session.sound

pub take_at_rest-driver-requires-clause-posted : goal.take_at_rest-driver-requires-clause-posted
take_at_rest-driver-requires-clause-posted g c = subst (λ (ps : List Post). ArePosted c.args.driver.1.history.facts (Some c.args.driver.1) ps) (sym c.deref.ensures.value) c.requires.between.posted

pub take_at_rest-driver-requires-clause-few : goal.take_at_rest-driver-requires-clause-few
take_at_rest-driver-requires-clause-few g c = subst (λ (ps : List Post). length ps < 2 ^ 32) (sym c.deref.ensures.value) c.requires.few

pub returns : goal.returns
returns g c =
    let device = g.S.Shelf.device in
    let first = c.args.driver in
    let end = c.take_at_rest-driver.result.0 in
    let taken = c.take_at_rest-driver.ensures in
    let rooms : HaveRooms first.1.history.room c.clear.new.self c.args.bytes =
    record { for_posts = let low = c.requires.fits.rooms.for_posts in let same = c.clear.ensures.capacity in omega (arith, low, same); for_bytes = c.requires.fits.rooms.for_bytes } in
    rest_ends device first c.args.posts c.args.bytes c.requires.fits c.requires.between end taken.enters taken.takes.endings
    (subst (λ (ps : List Post). TakesPosts (state_of device first) ps (state_of device end) taken.takes.endings) c.deref.ensures.value taken.takes.takes) taken.runs taken.sound
    c.clear.new.self c.clear.ensures.items rooms c.answered.result.stage c.answered.ensures.stage c.answered.result.reply
    (subst (Tells taken.takes.endings) (sym c.answered.ensures.reply) (c.reply.ensures taken.takes.endings taken.takes.gathers))
