use Rattle.std.proofs.Common.{◌≡◌, ◌≤◌}
use Rattle.lvm_turn.specs.Views.{reads}
use Rattle.lvm_turn.proofs.turn.Turn.enter.Given as goal

abbrev pub invariant-loop : goal.invariant-loop
invariant-loop g l =
    (goal.iterator-loop g).can_next l.iterator' × (goal.iterator-loop g).is_finite l.iterator'
    × (l.pass.table ≡ l.initial.pass.table) × (l.pass.knows ≡ reads l.pass.knows.number l.initial.pass.knows)
    × (l.initial.pass.knows.number ≤ l.pass.knows.number)
