use Rattle.std.proofs.Common.{sym}
use Rattle.lvm_due.specs.passed.Session.{core_of, admission_at}
use Rattle.lvm_due.proofs.SpansLemmas.{ends_here, goes_past, none_due}
use Rattle.lvm_due.proofs.firsts.first_admission.Goals as goal

pub returns-then-is_some-clause-first : goal.returns-then-is_some-clause-first
returns-then-is_some-clause-first c = ends_here (admission_at (core_of c.args.session.now)) c.args.session.now.requests.items c.loop-span.span c.loop-span.invariant c.loop-span-test.true c.admission_at-admission.ensures c.is_some.ensures c.if-is_some.true

pub loop-span-preserved : goal.loop-span-preserved
loop-span-preserved c = goes_past (admission_at (core_of c.args.session.now)) c.args.session.now.requests.items c.loop-span.span c.loop-span.invariant c.loop-span-test.true c.admission_at-admission.ensures c.is_some.ensures c.if-is_some.false

pub returns-clause-first : goal.returns-clause-first
returns-clause-first c = sym (none_due (admission_at (core_of c.args.session.now)) c.args.session.now.requests.items c.loop-span.span c.loop-span.invariant c.loop-span-test.false)
