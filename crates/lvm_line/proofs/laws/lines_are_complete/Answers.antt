use Rattle.lvm_line.proofs.CompleteLemmas.Completing.{lines_by_rule, lines_complete}
use Rattle.lvm_line.proofs.CompleteLemmas.Worked.{nothing_may_fail, nothing_may_fail_answered}
use Rattle.lvm_line.proofs.laws.lines_are_complete.Goals as goal

pub returns-clause-complete : goal.returns-clause-complete
returns-clause-complete c = lines_complete

pub returns-clause-met : goal.returns-clause-met
returns-clause-met c = nothing_may_fail

pub returns-clause-answered : goal.returns-clause-answered
returns-clause-answered c = nothing_may_fail_answered

pub returns-clause-rule : goal.returns-clause-rule
returns-clause-rule c = lines_by_rule
