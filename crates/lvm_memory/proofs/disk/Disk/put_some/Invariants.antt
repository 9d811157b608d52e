use Rattle.std.proofs.Common.{◌+◌}
use Rattle.lvm_memory.specs.Media.{picks}
use Rattle.lvm_memory.proofs.PiecesLemmas.Putting.{PutSoFar}
use Rattle.lvm_memory.proofs.disk.Disk.put_some.Given as goal

abbrev pub invariant-loop-i : goal.invariant-loop-i
invariant-loop-i l = PutSoFar (λ i. picks l.word (l.from + i)) l.initial.self-inside.pieces.items l.self-inside.count l.self-inside.pieces.items l.buf.sectors l.first l.i
