use Rattle.std.proofs.Common.{◌≡◌, ◌<◌, ◌∷◌, []}
use Rattle.lvm_turn.specs.Calls.{IsIdlePass}
use Rattle.lvm_workers.specs.Bringing.{WaitsBy}
use Rattle.lvm_workers.specs.Knowing.{Knows}
use Rattle.lvm_workers.specs.Working.{own_of}
use Rattle.lvm_workers.proofs.bring.bring_place.Given as goal

abbrev pub invariant-loop : goal.invariant-loop
invariant-loop g l =
    (goal.iterator-loop g).can_next l.iterator' × (goal.iterator-loop g).is_finite l.iterator'
    × IsIdlePass l.turn.table (l.client ∷ []) l.pass × Knows l.initial.pass.knows l.pass.knows × (own_of l.pass.knows ≡ own_of l.initial.pass.knows)
    × (l.idle < 1000000) × WaitsBy l.initial.idle l.idle (g.E.Service.waits l.initial.pass.knows.counts) (g.E.Service.waits l.pass.knows.counts)
