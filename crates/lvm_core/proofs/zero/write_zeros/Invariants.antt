use Rattle.std.proofs.Common.{◌*◌}
use Rattle.std.specs.Prelude.{◌==◌}
use Rattle.lvm_commit.specs.passed.TransferMovesMoved as moved
use Rattle.lvm_write.specs.Parts.{DoesPart}
use Rattle.lvm_core.specs.Zeros.{IsZeroOf, AreZeroed, IsClear}
use Rattle.lvm_core.proofs.zero.write_zeros.Given as goal

abbrev pub invariant-loop-piece : goal.invariant-loop-piece
invariant-loop-piece g l = record {
  part : DoesPart (λ d. d == l.pp.disk) (IsZeroOf l.mib l.pp) l.pp.disk l.fn.buf.number l.fn.patience.left l.patience.left (g.S.Shelf.device l.fn.shelf) (g.S.Shelf.device l.shelf) (moved.Done l.buf);
  clear : IsClear l.buf;
  zeros : AreZeroed l.mib l.pp 0 (256 * l.piece) (g.S.Shelf.device l.shelf);
}
