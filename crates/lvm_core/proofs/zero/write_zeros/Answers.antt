use Rattle.std.proofs.Common.{◌+◌, ◌*◌, ℕ, sym, subst, arith}
use Rattle.std.specs.Prelude.{◌==◌}
use Rattle.lvm_num.specs.Buffer.{Buffer}
use Rattle.lvm_commit.specs.passed.TransferMovesMoved as moved
use Rattle.lvm_write.proofs.PartsLemmas.Transfers.{part_here, part_then, not_done}
use Rattle.lvm_core.specs.Zeros.{IsZeroOf, IsZeroed, AreZeroed, IsClear}
use Rattle.lvm_core.proofs.ZerosLemmas.Zeroing.{no_zeros, zeros_stay, zeros_join, all_zeroed}
use Rattle.lvm_core.proofs.zero.write_zeros.Goals as goal

pub loop-piece-init : goal.loop-piece-init
loop-piece-init g c = record {
  part = part_here (λ d. d == c.args.pp.disk) (IsZeroOf c.args.mib c.args.pp) c.args.pp.disk c.args.buf.number c.args.patience.now.left (g.S.Shelf.device c.args.shelf.now) c.clear.new.buf c.requires.ready c.clear.ensures.number;
  clear = c.clear.ensures.clear;
  zeros = no_zeros c.args.mib c.args.pp (g.S.Shelf.device c.args.shelf.now) (g.S.Shelf.device c.args.shelf.now);
}

pub returns-in_default : goal.returns-in_default
returns-in_default g c =
    let new = g.S.Shelf.device c.write_piece.new.shelf in
    record {
      part = part_then (λ d. d == c.args.pp.disk) (IsZeroOf c.args.mib c.args.pp) c.args.pp.disk c.args.buf.number c.args.patience.now.left c.loop-piece.patience.left c.write_piece.new.patience.left (g.S.Shelf.device c.args.shelf.now)
          (g.S.Shelf.device c.loop-piece.shelf) new c.loop-piece.buf c.write_piece.result c.loop-piece.invariant.part c.write_piece.ensures.part;
      zeros = not_done c.write_piece.result (λ (back : Buffer). IsZeroed c.args.mib c.args.pp new) c.in_default.not-Done;
    }

pub loop-piece-preserved : goal.loop-piece-preserved
loop-piece-preserved g c =
    let old = g.S.Shelf.device c.loop-piece.shelf in
    let new = g.S.Shelf.device c.write_piece.new.shelf in
    record {
      part = part_then (λ d. d == c.args.pp.disk) (IsZeroOf c.args.mib c.args.pp) c.args.pp.disk c.args.buf.number c.args.patience.now.left c.loop-piece.patience.left c.write_piece.new.patience.left (g.S.Shelf.device c.args.shelf.now) old new
          c.loop-piece.buf (moved.Done c.in-Done.back) c.loop-piece.invariant.part c.in-Done.ensures.part;
      clear = subst IsClear (sym c.in-Done.ensures.back) c.loop-piece.invariant.clear;
      zeros = subst (λ (n : ℕ). AreZeroed c.args.mib c.args.pp 0 n new) (omega arith)
          (zeros_join c.args.mib c.args.pp old new 0 (256 * c.loop-piece.piece) (256 * c.loop-piece.piece + 256)
          (zeros_stay c.args.mib c.args.pp old new (λ d. d == c.args.pp.disk) c.in-Done.ensures.part.keeps 0 (256 * c.loop-piece.piece) c.loop-piece.invariant.zeros) c.in-Done.ensures.zeros);
    }

pub returns-clause-zeros : goal.returns-clause-zeros
returns-clause-zeros g c = all_zeroed c.args.mib c.args.pp (g.S.Shelf.device c.loop-piece.shelf) (g.S.Shelf.device c.loop-piece.shelf) c.loop-piece.piece (let e = c.from-piece-end.ensures in let f = c.loop-piece-test.false in let h = c.loop-piece.auto.piece-end in omega (arith, e, f, h)) c.loop-piece.invariant.zeros
