use Rattle.std.proofs.Common.{◌≡◌, ◌/◌, ◌%◌, arith, sym, ◌∙◌, ap, length, slice_set, length-set}
use Rattle.lvm_memory.specs.Pieces.{joined}
use Rattle.lvm_memory.proofs.MediaLemmas.Laying.{disk_at, sizes-set}
use Rattle.lvm_memory.proofs.PiecesLemmas.Putting.{set_cut}
use Rattle.lvm_memory.proofs.PiecesLemmas.Pieces.{lies_in}
use Rattle.lvm_memory.proofs.disk.put_sector.Goals as goal

pub index_mut-requires : goal.index_mut-requires
index_mut-requires c = let there = (lies_in 2048 c.args.pieces.now.items (c.args.at / 2048) (c.args.at % 2048) c.args.at c.requires.cut.sizes (omega arith) (omega arith) c.requires.there).there in omega (arith, there)

pub set_sector-requires : goal.set_sector-requires
set_sector-requires c =
    let lies = lies_in 2048 c.args.pieces.now.items (c.args.at / 2048) (c.args.at % 2048) c.args.at c.requires.cut.sizes (omega arith) (omega arith) c.requires.there in
    let inside = lies.inside in
    omega (arith, inside, ap length (disk_at c.args.pieces.now.items (c.args.at / 2048) c.index_mut.result.now c.index_mut.ensures.value lies.there))

pieces_put : (c : goal.After-pieces-1) → joined (slice_set c.args.pieces.now.items (c.args.at / 2048) c.set_sector.new.self) ≡ slice_set (joined c.args.pieces.now.items) c.args.at c.args.sector.now
pieces_put c =
    let lies = lies_in 2048 c.args.pieces.now.items (c.args.at / 2048) (c.args.at % 2048) c.args.at c.requires.cut.sizes (omega arith) (omega arith) c.requires.there in
    ap (λ piece. joined (slice_set c.args.pieces.now.items (c.args.at / 2048) piece))
    (c.set_sector.ensures.set ∙ ap (λ piece. slice_set piece (c.args.at % 2048) c.args.sector.now) (sym (disk_at c.args.pieces.now.items (c.args.at / 2048) c.index_mut.result.now c.index_mut.ensures.value lies.there)))
    ∙ sym (lies.set c.args.sector.now)

pub returns-clause-put : goal.returns-clause-put
returns-clause-put c = pieces_put c

pub returns-clause-cut : goal.returns-clause-cut
returns-clause-cut c =
    set_cut 2048 (length (joined c.args.pieces.now.items)) c.args.at c.args.pieces.now.items (slice_set c.args.pieces.now.items (c.args.at / 2048) c.set_sector.new.self) c.args.sector.now
    c.requires.cut c.set_sector.ensures.whole
    (sizes-set c.args.pieces.now.items (c.args.at / 2048) c.index_mut.result.now c.set_sector.new.self c.index_mut.ensures.value
    (ap length c.set_sector.ensures.set ∙ length-set c.index_mut.result.now (c.args.at % 2048) c.args.sector.now))
    (pieces_put c)
