use Rattle.std.proofs.Common.{arith, ◌∙◌, ap, length, slice_set}
use Rattle.lvm_memory.specs.Pieces.{filled_up}
use Rattle.lvm_memory.proofs.PiecesLemmas.Pieces.{filled_long, set_filled}
use Rattle.lvm_memory.proofs.piece.Piece.set_sector.Goals as goal

pub returns-clause-set : goal.returns-clause-set
returns-clause-set c =
    let long = filled_long c.self.inside.count c.self.inside.front.items c.self.invariant.within in
    let same = ap length c.self.view_is in
    ap (filled_up c.self.inside.count) c.keep.ensures.items
    ∙ set_filled c.self.inside.count c.args.at c.self.inside.front.items c.args.sector.now (omega (arith, long, same, c.requires)) c.self.invariant.within
    ∙ ap (λ all. slice_set all c.args.at c.args.sector.now) c.self.view_is
