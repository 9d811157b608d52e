use Rattle.std.proofs.Common.{inr}
use Rattle.lvm_kept.specs.Torn.{IsOfRecord, IsOtherOrRecord, brings}
use Rattle.lvm_kept.proofs.PlansLemmas.{plan_begins, step_keeps, plan_widens}
use Rattle.lvm_kept.proofs.laws.writing.Goals as goal

pub returns : goal.returns
returns c = record {
  begins = λ x. plan_begins (brings x);
  step = λ x. step_keeps (brings x);
  among = λ w old device. plan_widens (IsOfRecord w) (IsOtherOrRecord w) old device (λ d s value of. inr (inr of));
}
