use Rattle.std.proofs.Common.{sym, ◌∙◌, ap}
use Rattle.lvm_path.specs.declared.facts.Facts.{Facts}
use Rattle.lvm_path.specs.declared.request.Phase.TheVariants as phase
use Rattle.lvm_path.specs.Next.{next_in}
use Rattle.lvm_due.specs.passed.Session.{core_of, facts_of}
use Rattle.lvm_due.proofs.NextLemmas.{data_same}
use Rattle.lvm_due.proofs.facts.data_facts.Goals as goal

pub returns-then-is_unbegun : goal.returns-then-is_unbegun
returns-then-is_unbegun c = ap (λ (k : Facts). next_in phase.Data k c.args.request.now) c.chosen_facts.ensures

pub returns-else-is_unbegun : goal.returns-else-is_unbegun
returns-else-is_unbegun c = data_same c.args.request.now c.no_facts.result (facts_of (core_of c.args.session.now) c.args.request.now) (sym c.is_unbegun.ensures ∙ c.if-is_unbegun.false)
