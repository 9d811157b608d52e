use Rattle.std.proofs.Common.{◌≡◌, ◌/◌, ◌%◌, ◌++◌, ◌∷◌, [], arith, ◌∙◌, ap, replicate}
use Rattle.lvm_num.specs.Buffer.{zero_sector}
use Rattle.lvm_memory.specs.Pieces.{joined}
use Rattle.lvm_memory.proofs.PiecesLemmas.Pieces.{joined_zeros, zeros_cut}
use Rattle.lvm_memory.proofs.disk.Disk.zeros.Goals as goal

pieces_are : (c : goal.In_ok-push_piece) → c.push_piece.new.pieces.items ≡ replicate (c.args.count / 2048) (replicate 2048 zero_sector) ++ replicate (c.args.count % 2048) zero_sector ∷ []
pieces_are c = c.in_ok-push_piece.ensures ∙ ap (λ pieces. pieces ++ c.in_ok-blank.field-0 ∷ []) (c.in_ok-pieces.ensures) ∙ ap (λ piece. replicate (c.args.count / 2048) (replicate 2048 zero_sector) ++ piece ∷ []) (c.in_ok-blank.ensures)

pub invariant_of-result : goal.invariant_of-result
invariant_of-result c = zeros_cut 2048 (c.args.count / 2048) (c.args.count % 2048) c.args.count c.push_piece.new.pieces.items (omega arith) (omega arith) (omega arith) (pieces_are c)

pub returns-clause-zeros : goal.returns-clause-zeros
returns-clause-zeros c =
    ap joined (pieces_are c) ∙ joined_zeros 2048 (c.args.count / 2048) (c.args.count % 2048) ∙ ap (λ n. replicate n zero_sector) (omega arith)

pub returns-clause-sectors : goal.returns-clause-sectors
returns-clause-sectors c =
    (zeros_cut 2048 (c.args.count / 2048) (c.args.count % 2048) c.args.count c.push_piece.new.pieces.items (omega arith) (omega arith) (omega arith) (pieces_are c)).sectors
