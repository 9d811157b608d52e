use Rattle.std.proofs.Common.{Some, refl, subst}
use Rattle.std.specs.Prelude.{Result}
use Rattle.lvm_posts.specs.declared.asked.Asked.{Asked}
use Rattle.lvm_group_lines.specs.declared.reply.Refusal.{Refusal}
use Rattle.lvm_group_lines.specs.Stages.{HaveRooms}
use Rattle.lvm_group_lines.specs.declared.reply.Reply.TheVariants as reply
use Rattle.lvm_range_lines.specs.Requests.{AsksByName, NotPosted, Posts}
use Rattle.lvm_range_lines.proofs.RequestsLemmas.Adding.{has_place, posted_ends}
use Rattle.lvm_range_lines.proofs.RepliesLemmas.{carried_by, not_asked_heard}
use Rattle.lvm_range_lines.proofs.RequestsLemmas.Refusing.{refusing_ends}
use Rattle.lvm_range_lines.proofs.requests.post_on.Goals as goal

pub add-requires : goal.add-requires
add-requires g c =
    has_place g.S.Shelf.device c.args.driver.now c.args.posts.now c.args.bytes.now c.requires.fits c.requires.between c.args.name c.args.at c.args.count c.args.word c.ask.new.driver c.in-Ok.asked
    (subst (λ (r : Result Asked Refusal). AsksByName c.args.name (Some c.args.word) c.args.at c.args.count c.args.driver.now.1 c.ask.new.driver.1 r) c.in-Ok.is c.ask.ensures.asks) c.in-Ok.ensures.asked

pub returns-in-Ok : goal.returns-in-Ok
returns-in-Ok g c = λ stage left.
    let device = g.S.Shelf.device in
    let made = c.in-Ok.ensures in
    let room = c.args.driver.now.1.history.room in
    posted_ends device c.args.driver.now c.args.posts.now c.args.bytes.now c.requires.fits c.requires.between c.args.name c.args.at c.args.count c.args.word c.ask.new.driver c.in-Ok.asked
    (subst (λ (r : Result Asked Refusal). AsksByName c.args.name (Some c.args.word) c.args.at c.args.count c.args.driver.now.1 c.ask.new.driver.1 r) c.in-Ok.is c.ask.ensures.asks) made.asked
    made.shelf made.posts made.runs c.is_sound.ensures made.on c.add.new.posts c.add.ensures.items c.add.ensures.room c.ask.new.bytes made.room stage reply.Posted refl (left.rooms room)
    (carried_by device c.ask.new.driver c.add.new.posts c.ask.new.bytes reply.Posted reply.Posted stage refl refl left.comes)

pub returns-in-Err : goal.returns-in-Err
returns-in-Err g c = λ stage left.
    let device = g.S.Shelf.device in
    let made = c.in-Err.ensures in
    let room = c.args.driver.now.1.history.room in
    let rooms : HaveRooms room c.args.posts.now c.ask.new.bytes = record { for_posts = c.requires.fits.rooms.for_posts; for_bytes = made.room } in
    let asks = subst (λ (r : Result Asked Refusal). AsksByName c.args.name (Some c.args.word) c.args.at c.args.count c.args.driver.now.1 c.ask.new.driver.1 r) c.in-Err.is c.ask.ensures.asks in
    refusing_ends device c.args.driver.now c.args.posts.now c.args.bytes.now c.requires.fits c.requires.between c.args.name (Some c.args.word) c.args.at c.args.count
    (λ old new answer core lv. Posts lv c.args.at c.args.count c.args.word core old new answer) (λ old new answer core lv not. NotPosted not)
    c.ask.new.driver c.in-Err.why asks made.shelf made.posts made.runs made.on c.ask.new.bytes rooms stage (reply.Refused c.in-Err.why) refl (left.rooms room rooms)
    (carried_by device c.ask.new.driver c.args.posts.now c.ask.new.bytes (reply.Refused c.in-Err.why) (reply.Refused c.in-Err.why) stage refl
    (not_asked_heard c.args.name (Some c.args.word) c.args.at c.args.count c.args.driver.now.1 c.ask.new.driver.1 c.in-Err.why asks) left.comes)
