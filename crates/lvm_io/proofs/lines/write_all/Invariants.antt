use Rattle.std.proofs.Common.{◌≡◌, length}
use Rattle.lvm_io.proofs.StreamLemmas.Texts.{TextSoFar}
use Rattle.lvm_io.proofs.lines.write_all.Given as goal

abbrev pub invariant-loop-rest : goal.invariant-loop-rest
invariant-loop-rest g l = TextSoFar (g.O.Sink.held l.fn.out) (g.O.Sink.held l.out) l.text l.rest (g.O.Sink.faults l.fn.out) (g.O.Sink.faults l.out) × ((g.O.Sink.chosen l.out ≡ g.O.Sink.chosen l.fn.out) × (g.O.Sink.choices l.out ≡ g.O.Sink.choices l.fn.out))

abbrev pub decreases-loop-rest : goal.decreases-loop-rest
decreases-loop-rest g l = length l.rest
