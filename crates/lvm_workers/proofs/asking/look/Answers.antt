use Rattle.std.proofs.Common.{◌∙◌}
use Rattle.lvm_workers.proofs.WorkingLemmas.{has_left, it_holds, its_own, left_made, look_tells, may}
use Rattle.lvm_workers.proofs.WorkingLemmas.{look_waited}
use Rattle.lvm_workers.proofs.asking.look.Goals as goal

pub enter-value-requires-clause-holds : goal.enter-value-requires-clause-holds
enter-value-requires-clause-holds g c = it_holds c.args.turn.now.table c.args.client c.args.pass.now c.requires.idle

pub look-seen-requires-clause-awaits : goal.look-seen-requires-clause-awaits
look-seen-requires-clause-awaits g c =
    let asked = c.requires.awaits in
    let same = c.enter-value.ensures.value.own_entries c.args.client _ (its_own c.args.turn.now.table c.args.client c.args.pass.now c.requires.idle) in
    record { before = asked.before; request = asked.request; number = asked.number; last = same ∙ asked.last }

pub leave-requires-clause-may : goal.leave-requires-clause-may
leave-requires-clause-may g c =
    let lent = c.enter-value.ensures in
    let gave = c.look-seen.ensures in
    may g.E.Shown.tells g.E.Past.past g.E.Shown.always c.args.turn.now.table c.args.client c.args.pass.now c.enter-value.new.pass c.enter-value.result c.look-seen.new.self gave.more
    c.requires.idle lent.entered lent.value gave.grows gave.others

pub returns-clause-idle : goal.returns-clause-idle
returns-clause-idle g c =
    let lent = c.enter-value.ensures in
    let gave = c.look-seen.ensures in
    (has_left g.E.Shown.tells g.E.Past.past g.E.Shown.always c.args.turn.now.table c.args.client c.args.pass.now c.enter-value.new.pass c.enter-value.result c.look-seen.new.self gave.more
    c.requires.idle lent.entered lent.value gave.grows c.leave.new.pass lent.at c.leave.ensures).idle

pub returns-clause-knows : goal.returns-clause-knows
returns-clause-knows g c =
    let lent = c.enter-value.ensures in
    let gave = c.look-seen.ensures in
    (has_left g.E.Shown.tells g.E.Past.past g.E.Shown.always c.args.turn.now.table c.args.client c.args.pass.now c.enter-value.new.pass c.enter-value.result c.look-seen.new.self gave.more
    c.requires.idle lent.entered lent.value gave.grows c.leave.new.pass lent.at c.leave.ensures).knows

pub returns-clause-tells : goal.returns-clause-tells
returns-clause-tells g c =
    let lent = c.enter-value.ensures in
    let gave = c.look-seen.ensures in
    look_tells g.E.Shown.tells g.E.Past.past g.E.Shown.always c.args.turn.now.table c.args.client c.args.awaited.now.id c.args.pass.now c.leave.new.pass c.look-seen.new.self gave.more c.look-seen.result gave.enters
    (has_left g.E.Shown.tells g.E.Past.past g.E.Shown.always c.args.turn.now.table c.args.client c.args.pass.now c.enter-value.new.pass c.enter-value.result c.look-seen.new.self gave.more
    c.requires.idle lent.entered lent.value gave.grows c.leave.new.pass lent.at c.leave.ensures)

pub returns-clause-made : goal.returns-clause-made
returns-clause-made g c =
    let lent = c.enter-value.ensures in
    let gave = c.look-seen.ensures in
    left_made g.E.Shown.tells g.E.Past.past g.E.Shown.always (λ x y. g.E.Service.looks x c.args.client c.args.awaited.now.id c.look-seen.result y) c.args.turn.now.table c.args.client c.args.pass.now c.leave.new.pass c.enter-value.result c.look-seen.new.self gave.more
    lent.value gave.makes gave.grows
    (has_left g.E.Shown.tells g.E.Past.past g.E.Shown.always c.args.turn.now.table c.args.client c.args.pass.now c.enter-value.new.pass c.enter-value.result c.look-seen.new.self gave.more
    c.requires.idle lent.entered lent.value gave.grows c.leave.new.pass lent.at c.leave.ensures)

pub returns-clause-waited : goal.returns-clause-waited
returns-clause-waited g c = λ idle.
    let lent = c.enter-value.ensures in
    let gave = c.look-seen.ensures in
    look_waited g.E.Shown.tells g.E.Past.past g.E.Shown.always g.E.Service.waits g.met.E.Service.waits_stay c.args.turn.now.table c.args.client c.args.pass.now c.leave.new.pass c.enter-value.result c.look-seen.new.self gave.more
    lent.value.none_fell (gave.idle idle)
    (has_left g.E.Shown.tells g.E.Past.past g.E.Shown.always c.args.turn.now.table c.args.client c.args.pass.now c.enter-value.new.pass c.enter-value.result c.look-seen.new.self gave.more
    c.requires.idle lent.entered lent.value gave.grows c.leave.new.pass lent.at c.leave.ensures)
