use Rattle.std.proofs.Common.{length, arith, ap}
use Rattle.lvm_memory.specs.Pieces.{joined}
use Rattle.lvm_memory.proofs.BufferLemmas.{one_filled}
use Rattle.lvm_memory.proofs.disk.Disk.fill.Goals as goal

pub overflow_add-first : goal.overflow_add-first
overflow_add-first c = let long = c.self.invariant.long in let few = c.self.invariant.counted in let same = ap length c.self.view_is in omega (arith, long, few, same, c.requires.fits, c.loop-i-test.true)

pub loop-i-preserved : goal.loop-i-preserved
loop-i-preserved c =
    one_filled (joined c.self.inside.pieces.items) c.args.first c.args.count c.args.buf.now c.loop-i.buf c.set_sector.new.self c.loop-i.i c.sector_of.result.now c.loop-i.invariant c.loop-i-test.true (omega arith)
    c.sector_of.ensures c.set_sector.ensures.set
