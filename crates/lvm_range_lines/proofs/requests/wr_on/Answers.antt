use Rattle.std.proofs.Common.{◌≡◌, ◌≤◌, Some, refl, sym, ◌∙◌, ap, subst, arith}
use Rattle.std.specs.Prelude.{Result}
use Rattle.lvm_session.specs.declared.open.Power.TheVariants as power
use Rattle.lvm_posts.specs.declared.asked.Asked.{Asked}
use Rattle.lvm_group_lines.specs.declared.reply.Refusal.{Refusal}
use Rattle.lvm_group_lines.specs.declared.reply.Reply.{Reply}
use Rattle.lvm_group_lines.specs.Stages.{HaveRooms}
use Rattle.lvm_group_lines.specs.Replies.{is_unheard, most_refusals}
use Rattle.lvm_group_lines.specs.declared.reply.Reply.TheVariants as reply
use Rattle.lvm_range_lines.specs.Requests.{AsksByName, Finishes, NotBegun}
use Rattle.lvm_group_lines.proofs.passed.Tie.{path_frames}
use Rattle.lvm_range_lines.proofs.RepliesLemmas.{carried_by, not_asked_heard}
use Rattle.lvm_range_lines.proofs.RequestsLemmas.Lines.{finished_ends}
use Rattle.lvm_range_lines.proofs.RequestsLemmas.Refusing.{refusing_ends}
use Rattle.lvm_range_lines.proofs.requests.wr_on.Goals as goal

pub write_reply-done-requires-clause-unstuck : goal.write_reply-done-requires-clause-unstuck
write_reply-done-requires-clause-unstuck g c = λ stuck. let e : power.On ≡ power.Stuck = sym c.in-Ok.ensures.on ∙ stuck in cc e

pub returns-in-Ok : goal.returns-in-Ok
returns-in-Ok g c = λ posts fits between stage left.
    let device = g.S.Shelf.device in
    let made = c.in-Ok.ensures in
    let asked = c.in-Ok.asked in
    let end = c.write_reply-done.new.driver in
    let waited = c.write_reply-done.ensures in
    let room = c.args.driver.now.1.history.room in
    let rooms : HaveRooms room posts c.ask.new.bytes = record { for_posts = fits.rooms.for_posts; for_bytes = made.room } in
    let asks = subst (λ (r : Result Asked Refusal). AsksByName c.args.name (Some c.args.word) c.args.at c.args.count c.args.driver.now.1 c.ask.new.driver.1 r) c.in-Ok.is c.ask.ensures.asks in
    finished_ends device c.args.driver.now posts c.args.bytes.now fits between c.args.name (Some c.args.word) c.args.at c.args.count (λ end asked says. says ≡ reply.Ok)
    c.ask.new.driver asked asks made.asked made.shelf made.posts made.runs end waited.others waited.runs c.is_sound.ensures c.ask.new.bytes rooms stage c.finished.result (left.rooms room rooms)
    c.write_reply-done.result waited.finishes left.comes c.finished.ensures waited.reply (λ a is. (subst (λ (x : Reply). most_refusals x ≤ 1) (sym is) (omega arith), ap is_unheard is))

pub returns-in-Err : goal.returns-in-Err
returns-in-Err g c = λ posts fits between stage left.
    let device = g.S.Shelf.device in
    let made = c.in-Err.ensures in
    let room = c.args.driver.now.1.history.room in
    let rooms : HaveRooms room posts c.ask.new.bytes = record { for_posts = fits.rooms.for_posts; for_bytes = made.room } in
    let asks = subst (λ (r : Result Asked Refusal). AsksByName c.args.name (Some c.args.word) c.args.at c.args.count c.args.driver.now.1 c.ask.new.driver.1 r) c.in-Err.is c.ask.ensures.asks in
    refusing_ends device c.args.driver.now posts c.args.bytes.now fits between c.args.name (Some c.args.word) c.args.at c.args.count
    (λ old new answer core lv. Finishes (Some c.args.word) (λ end asked says. says ≡ reply.Ok) lv c.args.at c.args.count core old new answer) (λ old new answer core lv not. NotBegun not)
    c.ask.new.driver c.in-Err.why asks made.shelf made.posts made.runs made.on c.ask.new.bytes rooms stage (reply.Refused c.in-Err.why) refl (left.rooms room rooms)
    (carried_by device c.ask.new.driver posts c.ask.new.bytes (reply.Refused c.in-Err.why) (reply.Refused c.in-Err.why) stage refl
    (not_asked_heard c.args.name (Some c.args.word) c.args.at c.args.count c.args.driver.now.1 c.ask.new.driver.1 c.in-Err.why asks) left.comes)

pub write_reply-done-requires-clause-unmoved : goal.write_reply-done-requires-clause-unmoved
write_reply-done-requires-clause-unmoved g c = (path_frames c.in-Ok.ensures.runs).keeps.moves c.requires.unmoved
