use Rattle.std.proofs.Common.{◌≡◌, ◌==◌, true, false, get_or, refl, arith}
use Rattle.std.proofs.lemmas.Bool.{eq-eqb, ne_eqb}
use Rattle.lvm_sched.proofs.ReadsLemmas.Orders.{others_more, others_same, others_room, order_done}
use Rattle.lvm_sched.proofs.reads.read_order.Goals as goal
use Rattle.lvm_sched.proofs.reads.read_order.Goals.{then-copy-first, else-copy-first}

pub push-requires-then-copy-first : goal.push-requires-then-copy-first
push-requires-then-copy-first c =
    let other : (get_or c.args.usable.now c.loop-copy.copy-index 0 == c.in-Some.first) ≡ false = ne_eqb (get_or c.args.usable.now c.loop-copy.copy-index 0) c.in-Some.first c.if-copy-first.true in
    (omega arith, rw c.loop-copy.invariant (others_room c.args.usable.now c.in-Some.first c.loop-copy.copy-index c.requires c.in-Some.ensures.0 c.loop-copy-test.true other))

pub loop-copy-preserved : goal.loop-copy-preserved
loop-copy-preserved c =
    elim c.if-copy-first.branch [
      | then-copy-first w ↦
          let other : (get_or c.args.usable.now c.loop-copy.copy-index 0 == c.in-Some.first) ≡ false = ne_eqb (get_or c.args.usable.now c.loop-copy.copy-index 0) c.in-Some.first w.if-copy-first.true in
          rw (w.order-is, w.push-then-copy-first.ensures.items, c.loop-copy.invariant, others_more c.args.usable.now c.in-Some.first c.loop-copy.copy-index c.loop-copy-test.true other) refl
      | else-copy-first w ↦
          let same : (get_or c.args.usable.now c.loop-copy.copy-index 0 == c.in-Some.first) ≡ true = eq-eqb (get_or c.args.usable.now c.loop-copy.copy-index 0) c.in-Some.first w.if-copy-first.false in
          rw (w.order-is, c.loop-copy.invariant, others_same c.args.usable.now c.in-Some.first c.loop-copy.copy-index c.loop-copy-test.true same) refl
    ]

pub returns : goal.returns
returns c =
    order_done c.args.policy c.args.usable.now c.args.loads c.args.last c.in-Some.first c.loop-copy.copy-index c.loop-copy-test.false c.in-Some.ensures.0 c.in-Some.ensures.1 c.loop-copy.order.items c.loop-copy.invariant
