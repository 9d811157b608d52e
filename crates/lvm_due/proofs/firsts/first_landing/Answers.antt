use Rattle.std.proofs.Common.{sym}
use Rattle.lvm_due.specs.passed.Session.{core_of, landing_at}
use Rattle.lvm_due.proofs.SpansLemmas.{ends_here, goes_past, none_due}
use Rattle.lvm_due.proofs.firsts.first_landing.Goals as goal

pub returns-then-is_some-clause-first : goal.returns-then-is_some-clause-first
returns-then-is_some-clause-first c = ends_here (landing_at (core_of c.args.session.now)) c.args.session.now.requests.items c.loop-span.span c.loop-span.invariant c.loop-span-test.true c.landing_at-landing.ensures c.is_some.ensures c.if-is_some.true

pub loop-span-preserved : goal.loop-span-preserved
loop-span-preserved c = goes_past (landing_at (core_of c.args.session.now)) c.args.session.now.requests.items c.loop-span.span c.loop-span.invariant c.loop-span-test.true c.landing_at-landing.ensures c.is_some.ensures c.if-is_some.false

pub returns-clause-first : goal.returns-clause-first
returns-clause-first c = sym (none_due (landing_at (core_of c.args.session.now)) c.args.session.now.requests.items c.loop-span.span c.loop-span.invariant c.loop-span-test.false)
