use Rattle.std.proofs.Common.{[], subst}
use Rattle.lvm_history.specs.passed.Vol.{Log, Ordered}
use Rattle.lvm_history.proofs.history.History.run.Goals as goal

pub returns-clause-ordered : goal.returns-clause-ordered
returns-clause-ordered c = subst (λ (x : Log). Ordered x.run [] x.facts) c.self.view_is c.self.invariant.kept.its_own.ordered
