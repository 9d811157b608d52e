use Rattle.std.proofs.Common.{◌∙◌, ◌++◌, List, ap}
use Rattle.std.proofs.lemmas.List.{append-nil}
use Rattle.lvm_vol.specs.Facts.{Fact}
use Rattle.lvm_workers.specs.Working.{own_of}
use Rattle.lvm_workers.proofs.WorkingLemmas.{has_left, it_holds, left_made, look_waited, may}
use Rattle.lvm_workers.proofs.bring.bring.Goals as goal

pub enter-value-requires-clause-holds : goal.enter-value-requires-clause-holds
enter-value-requires-clause-holds g c = it_holds c.args.turn.now.table c.args.client c.args.pass.now c.requires.idle

pub leave-requires-clause-may : goal.leave-requires-clause-may
leave-requires-clause-may g c =
    let lent = c.enter-value.ensures in
    let gave = c.bring-brought.ensures in
    may g.E.Shown.tells g.E.Past.past g.E.Shown.always c.args.turn.now.table c.args.client c.args.pass.now c.enter-value.new.pass c.enter-value.result c.bring-brought.new.self gave.more
    c.requires.idle lent.entered lent.value gave.grows (λ k not. gave.others k)

pub returns-clause-idle : goal.returns-clause-idle
returns-clause-idle g c =
    let lent = c.enter-value.ensures in
    let gave = c.bring-brought.ensures in
    (has_left g.E.Shown.tells g.E.Past.past g.E.Shown.always c.args.turn.now.table c.args.client c.args.pass.now c.enter-value.new.pass c.enter-value.result c.bring-brought.new.self gave.more
    c.requires.idle lent.entered lent.value gave.grows c.leave.new.pass lent.at c.leave.ensures).idle

pub returns-clause-knows : goal.returns-clause-knows
returns-clause-knows g c =
    let lent = c.enter-value.ensures in
    let gave = c.bring-brought.ensures in
    (has_left g.E.Shown.tells g.E.Past.past g.E.Shown.always c.args.turn.now.table c.args.client c.args.pass.now c.enter-value.new.pass c.enter-value.result c.bring-brought.new.self gave.more
    c.requires.idle lent.entered lent.value gave.grows c.leave.new.pass lent.at c.leave.ensures).knows

pub returns-clause-own : goal.returns-clause-own
returns-clause-own g c =
    let lent = c.enter-value.ensures in
    let gave = c.bring-brought.ensures in
    let was = own_of c.args.pass.now.knows in
    (has_left g.E.Shown.tells g.E.Past.past g.E.Shown.always c.args.turn.now.table c.args.client c.args.pass.now c.enter-value.new.pass c.enter-value.result c.bring-brought.new.self gave.more
    c.requires.idle lent.entered lent.value gave.grows c.leave.new.pass lent.at c.leave.ensures).own_more
    ∙ ap (λ (m : List Fact). was ++ m) (gave.others c.args.client) ∙ append-nil was

pub returns-clause-made : goal.returns-clause-made
returns-clause-made g c =
    let lent = c.enter-value.ensures in
    let gave = c.bring-brought.ensures in
    left_made g.E.Shown.tells g.E.Past.past g.E.Shown.always (λ x y. g.E.Brings.brings x c.args.at c.bring-brought.result y) c.args.turn.now.table c.args.client c.args.pass.now c.leave.new.pass c.enter-value.result c.bring-brought.new.self gave.more
    lent.value gave.makes gave.grows
    (has_left g.E.Shown.tells g.E.Past.past g.E.Shown.always c.args.turn.now.table c.args.client c.args.pass.now c.enter-value.new.pass c.enter-value.result c.bring-brought.new.self gave.more
    c.requires.idle lent.entered lent.value gave.grows c.leave.new.pass lent.at c.leave.ensures)

pub returns-clause-waited : goal.returns-clause-waited
returns-clause-waited g c = λ idle.
    let lent = c.enter-value.ensures in
    let gave = c.bring-brought.ensures in
    look_waited g.E.Shown.tells g.E.Past.past g.E.Shown.always g.E.Service.waits g.met.E.Service.waits_stay c.args.turn.now.table c.args.client c.args.pass.now c.leave.new.pass c.enter-value.result c.bring-brought.new.self gave.more
    lent.value.none_fell (gave.idle idle)
    (has_left g.E.Shown.tells g.E.Past.past g.E.Shown.always c.args.turn.now.table c.args.client c.args.pass.now c.enter-value.new.pass c.enter-value.result c.bring-brought.new.self gave.more
    c.requires.idle lent.entered lent.value gave.grows c.leave.new.pass lent.at c.leave.ensures)
