use Rattle.std.proofs.Common.{ap}
use Rattle.lvm_due.specs.declared.span.Span.{Span}
use Rattle.lvm_due.proofs.DueLemmas.Spanning.{all_due}
use Rattle.lvm_due.proofs.due.Due.all.Goals as goal

pub returns : goal.returns
returns c core long = all_due core c.args.len c.all-span.result (ap (λ (s : Span). s.from) c.all-span.ensures) (ap (λ (s : Span). s.to) c.all-span.ensures) long
