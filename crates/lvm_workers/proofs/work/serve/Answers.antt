use Rattle.std.proofs.Common.{subst}
use Rattle.lvm_turn.specs.Views.{View}
use Rattle.lvm_workers.specs.Draws.{draw_at}
use Rattle.lvm_workers.specs.declared.words.Draw.{Draw}
use Rattle.lvm_workers.specs.declared.service.Asked.{Asked}
use Rattle.lvm_workers.specs.declared.service.Asked.TheVariants as asked
use Rattle.lvm_workers.specs.Knowing.{RefusedAs}
use Rattle.lvm_workers.specs.Working.{AskTells}
use Rattle.lvm_workers.proofs.KnowingLemmas.{knows_further}
use Rattle.lvm_workers.proofs.ServingLemmas.{now_awaits, serve_answered, serve_passed, serve_refused, serve_unheard}
use Rattle.lvm_workers.proofs.work.serve.Goals as goal

pub wait_for-requires-clause-awaits : goal.wait_for-requires-clause-awaits
wait_for-requires-clause-awaits g c =
    now_awaits _ _ c.args.client c.args.pass.now.knows c.ask.new.pass.knows c.in-Begun.awaited.id c.in-Begun.ensures.tells

pub returns-then-wait_for-clause-knows : goal.returns-then-wait_for-clause-knows
returns-then-wait_for-clause-knows g c = knows_further c.args.pass.now.knows c.ask.new.pass.knows c.wait_for.new.pass.knows c.in-Begun.ensures.knows c.if-wait_for.ensures.knows

pub returns-then-wait_for-clause-tells : goal.returns-then-wait_for-clause-tells
returns-then-wait_for-clause-tells g c =
    let R : Asked → View → Type 0 = RefusedAs g.E.Shown.tells g.E.Past.past g.E.Shown.always g.E.Service.refuses in
    let A = g.E.Service.asks c.args.client c.args.number in
    let tells : AskTells (A (draw_at c.args.rng.now)) R c.args.client c.args.pass.now.knows (asked.Begun c.in-Begun.awaited.id) c.ask.new.pass.knows =
    subst (λ (d : Draw). AskTells (A d) R c.args.client c.args.pass.now.knows (asked.Begun c.in-Begun.awaited.id) c.ask.new.pass.knows) c.draw_request-drawn.ensures.words c.in-Begun.ensures.tells in
    serve_answered (A (draw_at c.args.rng.now)) R g.E.Service.waits c.args.client c.in-Begun.awaited.id c.args.pass.now.knows c.ask.new.pass.knows c.wait_for.new.pass.knows tells c.if-wait_for.ensures.tells

pub returns-else-wait_for-clause-knows : goal.returns-else-wait_for-clause-knows
returns-else-wait_for-clause-knows g c = knows_further c.args.pass.now.knows c.ask.new.pass.knows c.wait_for.new.pass.knows c.in-Begun.ensures.knows c.if-wait_for.ensures.knows

pub returns-else-wait_for-clause-tells : goal.returns-else-wait_for-clause-tells
returns-else-wait_for-clause-tells g c =
    let R : Asked → View → Type 0 = RefusedAs g.E.Shown.tells g.E.Past.past g.E.Shown.always g.E.Service.refuses in
    let A = g.E.Service.asks c.args.client c.args.number in
    let tells : AskTells (A (draw_at c.args.rng.now)) R c.args.client c.args.pass.now.knows (asked.Begun c.in-Begun.awaited.id) c.ask.new.pass.knows =
    subst (λ (d : Draw). AskTells (A d) R c.args.client c.args.pass.now.knows (asked.Begun c.in-Begun.awaited.id) c.ask.new.pass.knows) c.draw_request-drawn.ensures.words c.in-Begun.ensures.tells in
    serve_unheard (A (draw_at c.args.rng.now)) R g.E.Service.waits c.args.client c.in-Begun.awaited.id c.args.pass.now.knows c.ask.new.pass.knows c.wait_for.new.pass.knows tells g.met.E.Service.waits_stay c.in-Begun.ensures.knows c.if-wait_for.ensures.tells

pub returns-in-Passed-clause-tells : goal.returns-in-Passed-clause-tells
returns-in-Passed-clause-tells g c =
    let R : Asked → View → Type 0 = RefusedAs g.E.Shown.tells g.E.Past.past g.E.Shown.always g.E.Service.refuses in
    let A = g.E.Service.asks c.args.client c.args.number in
    serve_passed (A (draw_at c.args.rng.now)) R c.args.client c.args.pass.now.knows c.ask.new.pass.knows g.E.Service.waits
    (subst (λ (d : Draw). AskTells (A d) R c.args.client c.args.pass.now.knows asked.Full c.ask.new.pass.knows) c.draw_request-drawn.ensures.words c.in-Passed.ensures.tells)

pub returns-in-Refused-clause-tells : goal.returns-in-Refused-clause-tells
returns-in-Refused-clause-tells g c =
    let R : Asked → View → Type 0 = RefusedAs g.E.Shown.tells g.E.Past.past g.E.Shown.always g.E.Service.refuses in
    let A = g.E.Service.asks c.args.client c.args.number in
    serve_refused (A (draw_at c.args.rng.now)) R c.args.client c.args.pass.now.knows c.ask.new.pass.knows g.E.Service.waits
    (subst (λ (d : Draw). AskTells (A d) R c.args.client c.args.pass.now.knows asked.Refused c.ask.new.pass.knows) c.draw_request-drawn.ensures.words c.in-Refused.ensures.tells)
