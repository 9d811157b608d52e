use Rattle.std.proofs.Common.{◌+◌, take, sym, subst}
use Rattle.lvm_memory.specs.Tickets.{AreBitsOf}
use Rattle.lvm_memory.proofs.TicketsLemmas.{none_told, one_told, zeros_tell}
use Rattle.lvm_memory.proofs.queue.taken_of.Goals as goal
use Rattle.lvm_memory.proofs.queue.taken_of.Goals.{then-flying-lt64, else-flying-lt64}

pub loop-flying-init : goal.loop-flying-init
loop-flying-init c = zeros_tell

pub loop-flying-preserved : goal.loop-flying-preserved
loop-flying-preserved c =
    let flights = c.args.flights.now in
    let so_far = c.loop-flying.taken in
    let i = c.loop-flying.flying-index in
    let f = c.flying-item.result in
    elim c.if-flying-lt64.branch [
      | then-flying-lt64 w ↦ subst (AreBitsOf (take (i + 1) flights)) (sym w.taken-is) (one_told flights so_far i f c.loop-flying.invariant c.loop-flying-test.true c.flying-item.is w.if-flying-lt64.true)
      | else-flying-lt64 w ↦ subst (AreBitsOf (take (i + 1) flights)) (sym w.taken-is) (none_told flights so_far i f c.loop-flying.invariant c.loop-flying-test.true c.flying-item.is w.if-flying-lt64.false)
    ]
