use Rattle.std.proofs.Common.{◌==◌, sym}
use Rattle.lvm_session.specs.declared.open.Open.{Open}
use Rattle.lvm_due.proofs.Queues.{place_within}
use Rattle.lvm_due.proofs.quiet.place_in.Goals as goal

pub returns-then-stands_at : goal.returns-then-stands_at
returns-then-stands_at c = record {
  within = c.stands_at.ensures.within c.if-stands_at.true;
  place = λ order. sym (c.stands_at.ensures.its c.if-stands_at.true order);
}

pub returns-else-stands_at : goal.returns-else-stands_at
returns-else-stands_at c = record {
  within = place_within (λ (o : Open). o.request.id == c.args.id) c.args.requests.now c.position_of.result c.position_of.ensures;
  place = λ order. c.position_of.ensures;
}
