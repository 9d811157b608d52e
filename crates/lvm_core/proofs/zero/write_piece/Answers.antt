use Rattle.std.proofs.Common.{◌≡◌, ℕ, ◌+◌, ◌*◌, refl, eq-eqb, arith}
use Rattle.std.specs.Prelude.{◌==◌}
use Rattle.lvm_num.specs.Geometry.{data_start, partition_blocks}
use Rattle.lvm_core.specs.Zeros.{IsZeroOf}
use Rattle.lvm_write.proofs.PartsLemmas.Pieces.{piece_part}
use Rattle.lvm_core.proofs.ZerosLemmas.Zeroing.{zeros_planned, zeros_in_plan}
use Rattle.lvm_core.proofs.zero.write_piece.Goals as goal

pub returns-clause-part : goal.returns-clause-part
returns-clause-part g c =
    let pp = c.args.pp in
    let first : ℕ = c.start_of.result + c.from.result in
    let place : first ≡ data_start + partition_blocks c.args.mib * pp.pp + 256 * c.args.piece = let e = c.start_of.ensures in let f = c.from.ensures in omega (arith, e, f) in
    piece_part (λ d. d == pp.disk) (IsZeroOf c.args.mib pp) pp.disk c.args.buf.number c.args.patience.now.left c.transfer.new.patience.left (g.S.Shelf.device c.args.shelf.now) (g.S.Shelf.device c.transfer.new.shelf) c.transfer.result
    c.transfer.ensures.gives.0 first 256 c.args.buf c.requires.ready refl (eq-eqb pp.disk pp.disk refl)
    (zeros_planned c.args.mib pp c.args.piece first c.args.buf place c.requires.piece c.requires.clear)
    (zeros_in_plan c.args.mib pp c.args.piece first c.args.buf place c.requires.piece c.requires.clear)
    c.transfer.ensures.gives.1 c.transfer.ensures.rests c.transfer.ensures.patience c.transfer.ensures.waited c.transfer.ensures.moments
