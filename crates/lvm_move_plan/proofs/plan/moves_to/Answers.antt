use Rattle.std.proofs.Common.{◌∙◌, arith}
use Rattle.lvm_num.specs.declared.place.Pp.{Pp}
use Rattle.lvm_move_plan.specs.declared.standing.VolumeCopy.{VolumeCopy}
use Rattle.lvm_move_plan.proofs.PlanLemmas.{moves_more, moves_whole}
use Rattle.lvm_move_plan.proofs.plan.moves_to.Goals as goal

abbrev no_copy : VolumeCopy
no_copy = record { lv = 0; lp = 0; number = 0 }

abbrev no_pp : Pp
no_pp = record { disk = 0; pp = 0 }

pub loop-place-preserved : goal.loop-place-preserved
loop-place-preserved c = moves_more c.args.copies.now c.args.free.now c.loop-place.place no_copy no_pp c.loop-place.moves.items _ (omega arith) (omega arith) c.in_ok-push.ensures.items c.loop-place.invariant

pub returns : goal.returns
returns c = c.new.ensures ∙ c.loop-place.invariant ∙ moves_whole c.args.copies.now c.args.free.now c.loop-place.place c.loop-place-test.false
