use Rattle.std.proofs.Common.{◌≡◌, ◌*◌}
use Rattle.lvm_program.proofs.StreamLemmas.{BlankSoFar}
use Rattle.lvm_program.proofs.image.run_image.Given as goal

abbrev pub invariant-loop : goal.invariant-loop
invariant-loop g l = BlankSoFar (1048576 * l.counter) (g.O.Sink.held l.fn.out) (g.O.Sink.held l.out) (g.O.Sink.faults l.fn.out) (g.O.Sink.faults l.out) × ((g.O.Sink.chosen l.out ≡ g.O.Sink.chosen l.fn.out) × (g.O.Sink.choices l.out ≡ g.O.Sink.choices l.fn.out))
