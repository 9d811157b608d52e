use Rattle.std.proofs.lemmas.Bool.{eqb-true}
use Rattle.std.proofs.lemmas.Option.{slice_get-get_or}
use Rattle.lvm_due.proofs.Queues.{position_is}
use Rattle.lvm_due.proofs.quiet.stands_at.Goals as goal

pub returns-then-place-requests : goal.returns-then-place-requests
returns-then-place-requests c = record {
  within = λ is. c.if-place-requests.true;
  its = λ is order.
      position_is c.args.requests.now c.args.place _ c.args.id order
      (slice_get-get_or c.args.requests.now c.args.place _ c.if-place-requests.true)
      (eqb-true _ c.args.id is);
}
