use Rattle.std.proofs.Common.{vec_capacity}
use Rattle.lvm_memory.proofs.PiecesLemmas.Putting.{AddedSoFar}
use Rattle.lvm_memory.proofs.piece.add_zeros.Given as goal

abbrev pub invariant-loop : goal.invariant-loop
invariant-loop l = AddedSoFar l.initial.sectors.items l.sectors.items l.counter (vec_capacity l.initial.sectors) (vec_capacity l.sectors)
