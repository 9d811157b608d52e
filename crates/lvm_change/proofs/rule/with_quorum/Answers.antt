use Rattle.std.proofs.Common.{sym, subst}
use Rattle.lvm_num.specs.declared.descriptor.Descriptor.{Descriptor}
use Rattle.lvm_num.specs.Descriptor.{IsValid}
use Rattle.lvm_change.specs.Rule.{with_quorum}
use Rattle.lvm_change.proofs.RefusingLemmas.{quorum_valid}
use Rattle.lvm_change.proofs.rule.with_quorum.Goals as goal

pub returns-clause-valid : goal.returns-clause-valid
returns-clause-valid c = subst (λ (d : Descriptor). IsValid (with_quorum c.args.on d)) (sym c.in_ok-next.ensures) (quorum_valid c.args.on c.args.d.now c.requires)
