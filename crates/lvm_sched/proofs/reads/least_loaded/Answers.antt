use Rattle.std.proofs.Common.{◌<◌, ◌≤◌, get_or, sym, arith}
use Rattle.lvm_sched.specs.Reads.{load_of}
use Rattle.lvm_sched.proofs.ReadsLemmas.Orders.{best_first, best_better, best_kept, best_number, best_of_all, number_at}
use Rattle.lvm_sched.proofs.reads.least_loaded.Goals as goal
use Rattle.lvm_sched.proofs.reads.least_loaded.Goals.{then-load_of, else-load_of}

pub loop-copy-init : goal.loop-copy-init
loop-copy-init c = best_first c.args.usable.now c.args.loads.now c.in_ok-best.field-0.now (sym c.in_ok-best.ensures.value)

pub load_of-requires : goal.load_of-requires
load_of-requires c =
    let it = number_at c.args.usable.now c.loop-copy.copy-index c.requires c.loop-copy-test.true in
    record { some = it.0; most = it.1 }

pub load_of-requires-in-loop-copy : goal.load_of-requires-in-loop-copy
load_of-requires-in-loop-copy c =
    let it = best_number c.args.usable.now c.args.loads.now c.loop-copy.copy-index c.loop-copy.best c.requires c.loop-copy.invariant in
    record { some = it.0; most = it.1 }

pub loop-copy-preserved : goal.loop-copy-preserved
loop-copy-preserved c =
    elim c.if-load_of.branch [
      | then-load_of w ↦
          let fewer : load_of c.args.loads.now (get_or c.args.usable.now c.loop-copy.copy-index 0) < load_of c.args.loads.now c.loop-copy.best = omega (arith, w.if-load_of.true, c.load_of.ensures, c.load_of-in-loop-copy.ensures) in
          rw w.best-is (best_better c.args.usable.now c.args.loads.now c.loop-copy.copy-index c.loop-copy.best c.loop-copy-test.true fewer c.loop-copy.invariant)
      | else-load_of w ↦
          let no_fewer : load_of c.args.loads.now c.loop-copy.best ≤ load_of c.args.loads.now (get_or c.args.usable.now c.loop-copy.copy-index 0) = omega (arith, w.if-load_of.false, c.load_of.ensures, c.load_of-in-loop-copy.ensures) in
          rw w.best-is (best_kept c.args.usable.now c.args.loads.now c.loop-copy.copy-index c.loop-copy.best c.requires c.loop-copy-test.true no_fewer c.loop-copy.invariant)
    ]

pub returns : goal.returns
returns c = best_of_all c.args.usable.now c.args.loads.now c.loop-copy.copy-index c.loop-copy.best c.loop-copy-test.false c.loop-copy.invariant
