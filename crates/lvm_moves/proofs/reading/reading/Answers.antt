use Rattle.std.proofs.Common.{◌≤◌, List, length, sym, ◌∙◌, subst, arith}
use Rattle.std.specs.Prelude.{All}
use Rattle.lvm_num.specs.declared.place.Pp.{Pp}
use Rattle.lvm_num.specs.Descriptor.{IsPartitionOf}
use Rattle.lvm_sched.specs.Reads.{AreCopies}
use Rattle.lvm_path.specs.Asks.{lv_of}
use Rattle.lvm_session.specs.Fields.{core_of}
use Rattle.lvm_session.specs.Judging.{lp_of}
use Rattle.lvm_due.proofs.passed.Due.{copies_in_are, few_in, numbered}
use Rattle.lvm_moves.specs.Choosing.{IsCopyThere}
use Rattle.lvm_moves.proofs.ChoosingLemmas.{usable_there}
use Rattle.lvm_session.proofs.EventsLemmas.{copies_are, order_holds, usable_holds}
use Rattle.lvm_moves.proofs.reading.reading.Goals as goal

pub usable_of-usable-requires : goal.usable_of-usable-requires
usable_of-usable-requires g c =
    let core = core_of c.args.session.now in
    subst (λ (ps : List Pp). length ps ≤ 3) (sym c.copies_for-copies.ensures) (few_in core.descriptor (lv_of c.args.ask.now) (lp_of core c.args.ask.now) c.requires.may.going.fitting.valid)

pub bounds-session-from : goal.bounds-session-from
bounds-session-from g c =
    let within = c.requires.within in
    let number = (numbered c.args.session.now.descriptor (lv_of c.args.ask.now) within.row c.requires.may.going.fitting.valid within.volume).1 in
    let lv = c.lv.ensures in
    let from = c.from.ensures in
    omega (arith, number, lv, from)

pub read_order-order-requires : goal.read_order-order-requires
read_order-order-requires g c =
    let core = core_of c.args.session.now in
    let few = subst (λ (ps : List Pp). length ps ≤ 3) (sym c.copies_for-copies.ensures) (few_in core.descriptor (lv_of c.args.ask.now) (lp_of core c.args.ask.now) c.requires.may.going.fitting.valid) in
    subst AreCopies (sym (c.deref.ensures.0 ∙ c.usable_of-usable.ensures)) (copies_are core c.copies_for-copies.result.now few)

pub targets_in-targets-requires-clause-there : goal.targets_in-targets-requires-clause-there
targets_in-targets-requires-clause-there g c =
    let core = core_of c.args.session.now in
    let device = g.S.Shelf.device c.args.shelf.now in
    let copies = c.copies_for-copies.result.now in
    let are = subst (All (IsPartitionOf core.descriptor)) (sym c.copies_for-copies.ensures) (copies_in_are core.descriptor (lv_of c.args.ask.now) (lp_of core c.args.ask.now) c.requires.may.going.fitting.valid) in
    let usable = usable_holds core (IsCopyThere device copies) 1 copies (usable_there device core c.requires.may copies are) in
    let all = subst (All (IsCopyThere device copies)) (sym (c.deref.ensures.0 ∙ c.usable_of-usable.ensures)) usable in
    subst (All (IsCopyThere device copies)) (sym c.deref-2.ensures.0) (order_holds (IsCopyThere device copies) _ c.deref.result.now _ _ c.read_order-order.result.items all c.read_order-order.ensures)
