use Rattle.std.proofs.Common.{refl, arith}
use Rattle.lvm_extend_plan.proofs.shown.judge.Goals as goal

pub returns-then-seen-moment-clause-lets : goal.returns-then-seen-moment-clause-lets
returns-then-seen-moment-clause-lets c = record {
  read = c.in_default.ensures.none;
  free = c.if-shows_foreign.ensures.no refl;
  earlier = λ shown shows. let le = c.last_epoch-seen.ensures.all shown shows in let past = c.if-seen-moment.true in omega (arith, le, past);
}
