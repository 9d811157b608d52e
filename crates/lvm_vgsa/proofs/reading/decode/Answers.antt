use Rattle.std.proofs.Common.{sym, ap, subst, ◌∙◌, arith}
use Rattle.lvm_num.specs.StatusBytes.{status_of}
use Rattle.lvm_fields.specs.Reading.{Gives}
use Rattle.lvm_vgsa.proofs.PartsLemmas.{status_is}
use Rattle.lvm_vgsa.proofs.StatusBytesLemmas.RoundTrip.{is_found, is_read_again}
use Rattle.lvm_vgsa.proofs.reading.decode.Goals as goal

pub returns-clause-spelled : goal.returns-clause-spelled
returns-clause-spelled c = is_found c.args.bytes.now c.status_at.result (λ i. omega (arith, c.type_inv.bytes i)) (subst (λ f. Gives (λ x. x) c.status_at.result f) (status_is c.args.bytes.now) c.status_at.ensures)

pub returns-clause-only : goal.returns-clause-only
returns-clause-only c = λ s is. subst (λ f. Gives (λ x. x) c.status_at.result f) (ap status_of (sym is.spelled) ∙ is_read_again s is.valid) (subst (λ f. Gives (λ x. x) c.status_at.result f) (status_is c.args.bytes.now) c.status_at.ensures)

pub returns-clause-exact : goal.returns-clause-exact
returns-clause-exact c = subst (λ f. Gives (λ x. x) c.status_at.result f) (status_is c.args.bytes.now) c.status_at.ensures
