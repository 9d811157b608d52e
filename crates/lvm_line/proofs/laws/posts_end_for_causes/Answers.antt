use Rattle.lvm_line.proofs.CausesLemmas.Posting.{told_causes, told_is_well}
use Rattle.lvm_line.proofs.CompleteLemmas.Worked.{nothing_may_happen}
use Rattle.lvm_line.proofs.laws.posts_end_for_causes.Goals as goal

pub returns-clause-told : goal.returns-clause-told
returns-clause-told c = told_causes

pub returns-clause-well : goal.returns-clause-well
returns-clause-well c = told_is_well

pub returns-clause-met : goal.returns-clause-met
returns-clause-met c = nothing_may_happen
