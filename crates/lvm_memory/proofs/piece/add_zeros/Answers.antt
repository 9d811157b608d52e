use Rattle.std.proofs.Common.{vec_capacity}
use Rattle.lvm_memory.proofs.PiecesLemmas.Putting.{one_added}
use Rattle.lvm_memory.proofs.piece.add_zeros.Goals as goal

pub loop-preserved : goal.loop-preserved
loop-preserved c =
    one_added c.args.sectors.now.items c.loop.sectors.items c.push.new.self.items c.loop.counter (vec_capacity c.args.sectors.now) (vec_capacity c.loop.sectors) (vec_capacity c.push.new.self)
    c.loop.invariant c.in-Ok.ensures.items c.in-Ok.ensures.capacity
