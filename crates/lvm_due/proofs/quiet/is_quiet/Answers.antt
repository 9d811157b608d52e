use Rattle.std.proofs.Common.{sym, ◌∙◌}
use Rattle.std.proofs.lemmas.Bool.{not-true}
use Rattle.lvm_due.proofs.quiet.is_quiet.Goals as goal

pub returns : goal.returns
returns c is = record { calm = c.is_calm.ensures c.if-not-is_calm.false; kept = λ o there. sym (c.any_fails.ensures o there) ∙ not-true c.any_fails.result is }
