use Rattle.std.proofs.Common.{sym}
use Rattle.lvm_due.specs.passed.Session.{core_of}
use Rattle.lvm_due.proofs.JudgingLemmas.{none_beside}
use Rattle.lvm_due.proofs.pending.any_fails_beside.Goals as goal

pub returns-then-unfailing : goal.returns-then-unfailing
returns-then-unfailing c = sym (none_beside (core_of c.args.session.now) c.args.request.now c.args.session.now.requests.items (c.requires.unfailing c.if-unfailing.true))
