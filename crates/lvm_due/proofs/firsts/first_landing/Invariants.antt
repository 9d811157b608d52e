use Rattle.std.proofs.Common.{◌-◌}
use Rattle.lvm_due.specs.passed.Session.{core_of, landing_at}
use Rattle.lvm_due.specs.Spans.{Spans}
use Rattle.lvm_due.proofs.firsts.first_landing.Given as goal

abbrev pub invariant-loop-span : goal.invariant-loop-span
invariant-loop-span l = Spans (landing_at (core_of l.session)) l.session.requests.items l.span

abbrev pub decreases-loop-span : goal.decreases-loop-span
decreases-loop-span l = l.span.to - l.span.from
