use Rattle.std.proofs.Common.{◌≡◌, ◌≤◌, ◌+◌, ◌-◌, vec_len}
use Rattle.lvm_turn.specs.Calls.{IsIdlePass}
use Rattle.lvm_turn.specs.Views.{counted}
use Rattle.lvm_workers.specs.Crews.{AllDone, AllMade, begun_over, shares}
use Rattle.lvm_workers.specs.Knowing.{TallyHasCause, Knows, MayEnd, Refused, RefusedAs}
use Rattle.lvm_workers.proofs.crew.gather.Given as goal

abbrev pub invariant-loop-worker : goal.invariant-loop-worker
invariant-loop-worker g l =
    (vec_len l.workers ≤ l.crew.threads)
    × IsIdlePass l.turn.table (counted (l.crew.threads - vec_len l.workers)) l.pass × Knows l.initial.pass.knows l.pass.knows
    × AllMade g.E.Service.asks (MayEnd (RefusedAs g.E.Shown.tells g.E.Past.past g.E.Shown.always g.E.Service.refuses) g.E.Service.waits l.initial.pass.knows l.pass.knows) l.crew l.pass.knows.clients × (l.tally.begun ≡ begun_over l.pass.knows.clients)
    × (l.tally.begun + l.tally.unbegun ≡ shares l.crew (l.crew.threads - vec_len l.workers))
    × TallyHasCause (Refused g.E.Shown.tells g.E.Past.past g.E.Shown.always g.E.Service.refuses) g.E.Service.waits l.initial.pass.knows l.pass.knows l.tally
    × AllDone g.E.Service.asks (RefusedAs g.E.Shown.tells g.E.Past.past g.E.Shown.always g.E.Service.refuses) g.E.Service.waits l.turn.table l.initial.pass.knows l.crew l.workers.items

abbrev pub decreases-loop-worker : goal.decreases-loop-worker
decreases-loop-worker g l = vec_len l.workers
