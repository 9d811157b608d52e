use Rattle.std.proofs.Common.{List, length, ap, ◌∙◌, arith}
use Rattle.lvm_num.specs.declared.place.Pp.{Pp}
use Rattle.lvm_move_plan.specs.declared.plan.PlannedMove.{PlannedMove}
use Rattle.lvm_move_plan.specs.Planned.{moves_to}
use Rattle.lvm_move_plan.proofs.FreeLemmas.{few_on, few_planned}
use Rattle.lvm_move_plan.proofs.plan.plan_moves.Goals as goal

pub overflow_cast-result : goal.overflow_cast-result
overflow_cast-result c =
    let few = few_on c.args.d.now c.args.to c.requires in
    let all = ap (λ (pps : List Pp). length pps) c.in_ok-free.ensures in
    let long = c.len-then-len.ensures in
    omega (arith, few, all, long, c.in_ok-free.free.ok.0)

pub returns-clause-few : goal.returns-clause-few
returns-clause-few c =
    let few = few_planned c.args.d.now c.args.lv c.args.from c.args.to c.requires in
    let copies = c.deref-2.ensures.value ∙ c.in_ok-copies.ensures in
    let free = c.deref-3.ensures.value ∙ c.in_ok-free.ensures in
    let moves = c.in_ok-moves_to.ensures ∙ (λ t. moves_to (copies t) (free t)) in
    let all = ap (λ (m : List PlannedMove). length m) moves in
    omega (arith, few, all)
