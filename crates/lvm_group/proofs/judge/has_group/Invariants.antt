use Rattle.lvm_group.proofs.JudgedLemmas.{NoneTaken}
use Rattle.lvm_group.proofs.judge.has_group.Given as goal

abbrev pub invariant-loop-row : goal.invariant-loop-row
invariant-loop-row l = NoneTaken l.survey l.force l.row-index
