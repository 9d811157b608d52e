use Rattle.std.proofs.Common.{◌≡◌, ◌≤◌, ◌-◌, vec_len, vec_capacity, false}
use Rattle.lvm_turn.specs.Views.{up_to}
use Rattle.lvm_workers.specs.Crews.{AllReady, SeenAs}
use Rattle.lvm_workers.specs.Knowing.{Knows}
use Rattle.lvm_workers.proofs.crew.hand_out.Given as goal

abbrev pub invariant-loop-k : goal.invariant-loop-k
invariant-loop-k g l =
    (l.pass.table ≡ l.turn.table) × (l.pass.knows.inside ≡ false) × (l.pass.knows.clients ≡ up_to (l.crew.threads - l.k))
    × Knows l.initial.pass.knows l.pass.knows × SeenAs l.initial.pass.knows l.pass.knows
    × (vec_len l.workers ≡ l.k) × (l.crew.threads ≤ vec_capacity l.workers)
    × AllReady l.turn.table g.E.Service.clients l.initial.pass.knows l.crew l.workers.items
