use Rattle.std.proofs.Common.{◌≡◌, ◌≤◌, ◌<◌, ◌∷◌, []}
use Rattle.lvm_turn.specs.Calls.{IsIdlePass}
use Rattle.lvm_workers.specs.Draws.{after_draws, seeded}
use Rattle.lvm_workers.specs.Knowing.{Knows, Refused}
use Rattle.lvm_workers.specs.Making.{Served}
use Rattle.lvm_workers.specs.Working.{own_of}
use Rattle.lvm_workers.proofs.work.work.Given as goal

abbrev pub invariant-loop-number : goal.invariant-loop-number
invariant-loop-number g l =
    IsIdlePass l.turn.table (l.job.client ∷ []) l.pass × Knows l.initial.pass.knows l.pass.knows
    × Served (g.E.Service.asks l.job.client) (seeded l.job.seed) l.number l.begun (own_of l.pass.knows)
    × (l.rng ≡ after_draws l.number (seeded l.job.seed)) × (l.begun ≤ l.number)
    × (l.begun < l.number → Refused g.E.Shown.tells g.E.Past.past g.E.Shown.always g.E.Service.refuses l.pass.knows)
