use Rattle.lvm_memory.proofs.PiecesLemmas.Putting.{TakenSoFar}
use Rattle.lvm_memory.proofs.disk.Disk.set_front.Given as goal

abbrev pub invariant-loop-i : goal.invariant-loop-i
invariant-loop-i l = TakenSoFar l.sectors l.initial.self-inside.pieces.items l.self-inside.count l.self-inside.pieces.items l.i
