use Rattle.std.proofs.Common.{sym, ap, ◌∙◌, arith}
use Rattle.std.specs.Prelude.{Option}
use Rattle.std.specs.Option.{option_map}
use Rattle.lvm_move_plan.specs.declared.standing.VolumeCopy.{VolumeCopy}
use Rattle.lvm_move_plan.specs.Planned.{stands_beside}
use Rattle.lvm_move_plan.proofs.PlanLemmas.{find_here, find_more}
use Rattle.lvm_move_plan.proofs.plan.first_strict.Goals as goal

abbrev no_copy : VolumeCopy
no_copy = record { lv = 0; lp = 0; number = 0 }

pub returns-then-stands_beside : goal.returns-then-stands_beside
returns-then-stands_beside c =
    ap (λ (m : Option VolumeCopy). option_map (λ (x : VolumeCopy). x.lp) m)
    (sym (find_here (stands_beside c.args.d.now c.args.disk) c.args.copies.now c.loop-copy.copy-index no_copy (omega arith) c.loop-copy.invariant (sym c.stands_beside.ensures ∙ c.if-stands_beside.true)))

pub loop-copy-preserved : goal.loop-copy-preserved
loop-copy-preserved c =
    find_more (stands_beside c.args.d.now c.args.disk) c.args.copies.now c.loop-copy.copy-index no_copy (omega arith) c.loop-copy.invariant (sym c.stands_beside.ensures ∙ c.if-stands_beside.false)
