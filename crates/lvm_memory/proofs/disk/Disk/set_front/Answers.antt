use Rattle.std.proofs.Common.{◌∙◌, ap, sym, refl, length, slice_index_or, []}
use Rattle.lvm_memory.proofs.PiecesLemmas.Putting.{cut_again, one_taken}
use Rattle.lvm_memory.proofs.disk.Disk.set_front.Goals as goal

pub invariant_of-self : goal.invariant_of-self
invariant_of-self c = cut_again c.loop-i.self-inside.count c.self.inside.pieces.items c.loop-i.self-inside.pieces.items c.loop-i.invariant.count c.loop-i.invariant.cut

pub loop-i-preserved : goal.loop-i-preserved
loop-i-preserved c =
    one_taken c.args.sectors.now c.self.inside.pieces.items c.loop-i.self-inside.pieces.items c.put_sector.new.pieces.items c.loop-i.self-inside.count c.loop-i.self-inside.count c.loop-i.i
    (slice_index_or c.args.sectors.now c.loop-i.i []) [] c.loop-i.invariant (c.requires ∙ sym (ap length c.self.view_is)) c.loop-i-test.true refl c.put_sector.ensures.put c.put_sector.ensures.cut refl
