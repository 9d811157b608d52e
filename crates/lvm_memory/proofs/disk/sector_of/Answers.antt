use Rattle.std.proofs.Common.{◌/◌, ◌%◌, arith, sym, ◌∙◌, ap, length, slice_index_or, []}
use Rattle.lvm_memory.proofs.MediaLemmas.Laying.{disk_at}
use Rattle.lvm_memory.proofs.PiecesLemmas.Pieces.{lies_in}
use Rattle.lvm_memory.proofs.disk.sector_of.Goals as goal

pub index-requires : goal.index-requires
index-requires c = let there = (lies_in 2048 c.args.pieces.now.items (c.args.at / 2048) (c.args.at % 2048) c.args.at c.requires.sizes (omega arith) (omega arith) c.requires.there).there in omega (arith, there)

pub sector-requires : goal.sector-requires
sector-requires c =
    let lies = lies_in 2048 c.args.pieces.now.items (c.args.at / 2048) (c.args.at % 2048) c.args.at c.requires.sizes (omega arith) (omega arith) c.requires.there in
    let inside = lies.inside in
    omega (arith, inside, ap length (disk_at c.args.pieces.now.items (c.args.at / 2048) c.index.result.now c.index.ensures lies.there))

pub returns : goal.returns
returns c =
    let lies = lies_in 2048 c.args.pieces.now.items (c.args.at / 2048) (c.args.at % 2048) c.args.at c.requires.sizes (omega arith) (omega arith) c.requires.there in
    c.sector.ensures ∙ ap (λ piece. slice_index_or piece (c.args.at % 2048) []) (sym (disk_at c.args.pieces.now.items (c.args.at / 2048) c.index.result.now c.index.ensures lies.there)) ∙ sym lies.found
