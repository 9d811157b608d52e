use Rattle.lvm_memory.proofs.PiecesLemmas.Putting.{cut_again}
use Rattle.lvm_memory.proofs.disk.Disk.put_some.Goals as goal

pub invariant_of-self : goal.invariant_of-self
invariant_of-self c = cut_again c.loop-i.self-inside.count c.self.inside.pieces.items c.loop-i.self-inside.pieces.items c.loop-i.invariant.count c.loop-i.invariant.cut
