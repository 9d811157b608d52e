use Rattle.std.proofs.Common.{sym, subst}
use Rattle.lvm_workers.specs.declared.service.Asked.{Asked}
use Rattle.lvm_workers.specs.Knowing.{RefusedAs}
use Rattle.lvm_workers.specs.Working.{AskTells}
use Rattle.lvm_workers.proofs.WorkingLemmas.{ask_tells, has_left, it_holds, may}
use Rattle.lvm_workers.proofs.asking.ask.Goals as goal

pub enter-value-requires-clause-holds : goal.enter-value-requires-clause-holds
enter-value-requires-clause-holds g c = it_holds c.args.turn.now.table c.args.client c.args.pass.now c.requires.idle

pub leave-requires-clause-may : goal.leave-requires-clause-may
leave-requires-clause-may g c =
    let lent = c.enter-value.ensures in
    let gave = c.ask-asked.ensures in
    may g.E.Shown.tells g.E.Past.past g.E.Shown.always c.args.turn.now.table c.args.client c.args.pass.now c.enter-value.new.pass c.enter-value.result c.ask-asked.new.self gave.more
    c.requires.idle lent.entered lent.value gave.grows gave.others

pub returns-clause-idle : goal.returns-clause-idle
returns-clause-idle g c =
    let lent = c.enter-value.ensures in
    let gave = c.ask-asked.ensures in
    (has_left g.E.Shown.tells g.E.Past.past g.E.Shown.always c.args.turn.now.table c.args.client c.args.pass.now c.enter-value.new.pass c.enter-value.result c.ask-asked.new.self gave.more
    c.requires.idle lent.entered lent.value gave.grows c.leave.new.pass lent.at c.leave.ensures).idle

pub returns-clause-knows : goal.returns-clause-knows
returns-clause-knows g c =
    let lent = c.enter-value.ensures in
    let gave = c.ask-asked.ensures in
    (has_left g.E.Shown.tells g.E.Past.past g.E.Shown.always c.args.turn.now.table c.args.client c.args.pass.now c.enter-value.new.pass c.enter-value.result c.ask-asked.new.self gave.more
    c.requires.idle lent.entered lent.value gave.grows c.leave.new.pass lent.at c.leave.ensures).knows

pub returns-clause-tells : goal.returns-clause-tells
returns-clause-tells g c =
    let lent = c.enter-value.ensures in
    let gave = c.ask-asked.ensures in
    let tells = ask_tells g.E.Shown.tells g.E.Past.past g.E.Shown.always g.E.Service.refuses (g.E.Service.asks c.args.client c.args.number c.args.drawn.now) c.args.turn.now.table c.args.client c.args.number c.args.drawn.now c.args.pass.now c.leave.new.pass c.enter-value.result c.ask-asked.new.self c.ask-asked.result gave lent.value.always_holds
    (has_left g.E.Shown.tells g.E.Past.past g.E.Shown.always c.args.turn.now.table c.args.client c.args.pass.now c.enter-value.new.pass c.enter-value.result c.ask-asked.new.self gave.more
    c.requires.idle lent.entered lent.value gave.grows c.leave.new.pass lent.at c.leave.ensures) in
    subst (λ (said : Asked). AskTells (g.E.Service.asks c.args.client c.args.number c.args.drawn.now) (RefusedAs g.E.Shown.tells g.E.Past.past g.E.Shown.always g.E.Service.refuses) c.args.client c.args.pass.now.knows said c.leave.new.pass.knows) (sym c.answer_of.ensures.says) tells
