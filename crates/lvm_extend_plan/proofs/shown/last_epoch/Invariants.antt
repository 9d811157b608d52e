use Rattle.lvm_extend_plan.proofs.JudgedLemmas.{IsLastBelow}
use Rattle.lvm_extend_plan.proofs.shown.last_epoch.Given as goal

abbrev pub invariant-loop-row : goal.invariant-loop-row
invariant-loop-row l = IsLastBelow l.survey l.disks l.row-index l.last
