use Rattle.lvm_group.proofs.JudgedLemmas.{IsLastBelow}
use Rattle.lvm_group.proofs.judge.last_shown.Given as goal

abbrev pub invariant-loop-row : goal.invariant-loop-row
invariant-loop-row l = IsLastBelow l.survey l.row-index l.last
