use Rattle.std.proofs.Common.{sym, subst}
use Rattle.lvm_num.specs.declared.descriptor.Descriptor.{Descriptor}
use Rattle.lvm_num.specs.Descriptor.{IsValid}
use Rattle.lvm_change.specs.Rule.{as_big}
use Rattle.lvm_change.proofs.RefusingLemmas.{big_valid}
use Rattle.lvm_change.proofs.rule.as_big.Goals as goal

pub returns-clause-valid : goal.returns-clause-valid
returns-clause-valid c = subst (λ (d : Descriptor). IsValid (as_big d)) (sym c.in_ok-next.ensures) (big_valid c.args.d.now c.requires)
