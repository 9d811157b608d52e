use Rattle.std.proofs.Common.{true}
use Rattle.lvm_memory.proofs.PiecesLemmas.Putting.{PutSoFar}
use Rattle.lvm_memory.proofs.disk.Disk.put.Given as goal

abbrev pub invariant-loop-i : goal.invariant-loop-i
invariant-loop-i l = PutSoFar (λ _. true) l.initial.self-inside.pieces.items l.self-inside.count l.self-inside.pieces.items l.buf.sectors l.first l.i
