use Rattle.std.proofs.Common.{◌≡◌, None, refl, sym, ◌∙◌, subst}
use Rattle.std.specs.Prelude.{Result}
use Rattle.lvm_session.specs.declared.open.Power.TheVariants as power
use Rattle.lvm_posts.specs.declared.asked.Asked.{Asked}
use Rattle.lvm_session.specs.State.{state_of}
use Rattle.lvm_group_lines.specs.declared.reply.Refusal.{Refusal}
use Rattle.lvm_group_lines.specs.Stages.{HaveRooms}
use Rattle.lvm_group_lines.specs.declared.reply.Reply.TheVariants as reply
use Rattle.lvm_range_lines.specs.Requests.{AsksByName, Finishes, NotBegun, ShowsBlocks}
use Rattle.lvm_group_lines.proofs.passed.Tie.{path_frames}
use Rattle.lvm_range_lines.proofs.RepliesLemmas.{blocks_heard, carried_by, not_asked_heard}
use Rattle.lvm_range_lines.proofs.RequestsLemmas.Lines.{asks_at, at_range, blocks_few, finished_ends}
use Rattle.lvm_range_lines.proofs.RequestsLemmas.Refusing.{refusing_ends}
use Rattle.lvm_range_lines.proofs.requests.rd_on.Goals as goal

pub read_reply-done-requires-clause-unstuck : goal.read_reply-done-requires-clause-unstuck
read_reply-done-requires-clause-unstuck g c = λ stuck. let e : power.On ≡ power.Stuck = sym c.in-Ok.ensures.on ∙ stuck in cc e

pub returns-in-Ok : goal.returns-in-Ok
returns-in-Ok g c = λ posts fits between stage left.
    let device = g.S.Shelf.device in
    let made = c.in-Ok.ensures in
    let asked = c.in-Ok.asked in
    let end = c.read_reply-done.new.driver in
    let waited = c.read_reply-done.ensures in
    let room = c.args.driver.now.1.history.room in
    let rooms : HaveRooms room posts c.ask.new.bytes = record { for_posts = fits.rooms.for_posts; for_bytes = made.room } in
    let asks = subst (λ (r : Result Asked Refusal). AsksByName c.args.name None c.args.at c.args.count c.args.driver.now.1 c.ask.new.driver.1 r) c.in-Ok.is c.ask.ensures.asks in
    finished_ends device c.args.driver.now posts c.args.bytes.now fits between c.args.name None c.args.at c.args.count (ShowsBlocks c.args.at)
    c.ask.new.driver asked asks made.asked made.shelf made.posts made.runs end waited.others waited.runs c.is_sound.ensures c.ask.new.bytes rooms stage c.finished.result (left.rooms room rooms)
    c.read_reply-done.result waited.finishes left.comes c.finished.ensures (at_range c.args.at asked (asks_at c.args.name None c.args.at c.args.count c.args.driver.now.1 c.ask.new.driver.1 asked asks) (state_of device end) c.read_reply-done.result waited.reply) (λ a shows. (blocks_few c.args.at (state_of device end) asked a shows, blocks_heard c.args.at (state_of device end) asked a shows))

pub returns-in-Err : goal.returns-in-Err
returns-in-Err g c = λ posts fits between stage left.
    let device = g.S.Shelf.device in
    let made = c.in-Err.ensures in
    let room = c.args.driver.now.1.history.room in
    let rooms : HaveRooms room posts c.ask.new.bytes = record { for_posts = fits.rooms.for_posts; for_bytes = made.room } in
    let asks = subst (λ (r : Result Asked Refusal). AsksByName c.args.name None c.args.at c.args.count c.args.driver.now.1 c.ask.new.driver.1 r) c.in-Err.is c.ask.ensures.asks in
    refusing_ends device c.args.driver.now posts c.args.bytes.now fits between c.args.name None c.args.at c.args.count
    (λ old new answer core lv. Finishes None (ShowsBlocks c.args.at) lv c.args.at c.args.count core old new answer) (λ old new answer core lv not. NotBegun not)
    c.ask.new.driver c.in-Err.why asks made.shelf made.posts made.runs made.on c.ask.new.bytes rooms stage (reply.Refused c.in-Err.why) refl (left.rooms room rooms)
    (carried_by device c.ask.new.driver posts c.ask.new.bytes (reply.Refused c.in-Err.why) (reply.Refused c.in-Err.why) stage refl
    (not_asked_heard c.args.name None c.args.at c.args.count c.args.driver.now.1 c.ask.new.driver.1 c.in-Err.why asks) left.comes)

pub read_reply-done-requires-clause-read : goal.read_reply-done-requires-clause-read
read_reply-done-requires-clause-read g c = c.in-Ok.ensures.asked.read refl

pub read_reply-done-requires-clause-unmoved : goal.read_reply-done-requires-clause-unmoved
read_reply-done-requires-clause-unmoved g c = (path_frames c.in-Ok.ensures.runs).keeps.moves c.requires.unmoved
