use Rattle.lvm_memory.specs.Pieces.{joined}
use Rattle.lvm_memory.proofs.BufferLemmas.{FillSoFar}
use Rattle.lvm_memory.proofs.disk.Disk.fill.Given as goal

abbrev pub invariant-loop-i : goal.invariant-loop-i
invariant-loop-i l = FillSoFar (joined l.self-inside.pieces.items) l.first l.count l.initial.buf l.buf l.i
