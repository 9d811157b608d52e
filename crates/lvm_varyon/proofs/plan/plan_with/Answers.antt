use Rattle.std.proofs.Common.{refl}
use Rattle.lvm_varyon.proofs.plan.plan_with.Goals as goal

pub returns : goal.returns
returns c = record {
  descriptor = c.in_ok-bytes.ensures.descriptor;
  status = c.in_ok-bytes.ensures.status;
  targets = refl;
  same_copying = refl;
  same_homes = refl;
  last = c.in_ok-last.ensures;
}
