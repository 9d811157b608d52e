use Rattle.std.proofs.Common.{◌-◌}
use Rattle.lvm_io.proofs.ReadingLemmas.{LinesSoFar}
use Rattle.lvm_io.proofs.lines.Lines.next_line.Given as goal

abbrev pub invariant-loop-alloc : goal.invariant-loop-alloc
invariant-loop-alloc g l = LinesSoFar l.fn.self l.self (g.I.Source.left l.fn.input) (g.I.Source.left l.input) (g.I.Source.faults l.fn.input) (g.I.Source.faults l.input)

abbrev pub decreases-loop-alloc : goal.decreases-loop-alloc
decreases-loop-alloc g l = 16777217 - l.self.given
