use Rattle.std.proofs.Common.{sym, ap, subst, ◌∙◌, arith}
use Rattle.lvm_num.specs.DescriptorBytes.{descriptor_of}
use Rattle.lvm_vgda.specs.passed.Fields.{Gives}
use Rattle.lvm_vgda.proofs.PartsLemmas.{descriptor_is}
use Rattle.lvm_vgda.proofs.DescriptorBytesLemmas.Whole.{is_found, spelled_is_read}
use Rattle.lvm_vgda.proofs.reading.decode.Goals as goal

pub returns-clause-spelled : goal.returns-clause-spelled
returns-clause-spelled c = is_found c.args.bytes.now c.descriptor_of.result (λ i. omega (arith, c.type_inv.bytes i)) (subst (λ f. Gives (λ x. x) c.descriptor_of.result f) (descriptor_is c.args.bytes.now) c.descriptor_of.ensures)

pub returns-clause-only : goal.returns-clause-only
returns-clause-only c = λ d is. subst (λ f. Gives (λ x. x) c.descriptor_of.result f) (ap descriptor_of (sym is.spelled) ∙ spelled_is_read d is.valid) (subst (λ f. Gives (λ x. x) c.descriptor_of.result f) (descriptor_is c.args.bytes.now) c.descriptor_of.ensures)

pub returns-clause-exact : goal.returns-clause-exact
returns-clause-exact c = subst (λ f. Gives (λ x. x) c.descriptor_of.result f) (descriptor_is c.args.bytes.now) c.descriptor_of.ensures
