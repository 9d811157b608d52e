use Rattle.std.proofs.Common.{arith}
use Rattle.lvm_history.specs.Opened.{kept_of}
use Rattle.lvm_history.proofs.KeepingLemmas.{needed_counted}
use Rattle.lvm_history.proofs.history.History.spare_entries.Goals as goal

pub returns-clause-counted : goal.returns-clause-counted
returns-clause-counted c =
    let its = needed_counted (kept_of c.self.inside) c.args.self.now c.self.invariant.kept c.self.view_is in
    let room = its.0 in let needs = its.1 in
    omega (arith, room, needs, c.saturating_sub.ensures, c.saturating_sub-2.ensures)
