use Rattle.std.proofs.Common.{refl, arith}
use Rattle.lvm_group.proofs.judge.judge.Goals as goal

pub returns-clause-lets : goal.returns-clause-lets
returns-clause-lets c = record {
  read = c.in_default.ensures.none;
  free = c.if-has_group.ensures.no refl;
  first = omega arith;
  later = λ shown shows. let lt = c.last_shown-seen.ensures.all shown shows in let past = c.if-moment-seen.false in omega (arith, lt, past);
}
