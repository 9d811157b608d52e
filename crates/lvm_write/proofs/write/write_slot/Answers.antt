use Rattle.std.proofs.Common.{arith, ◌+◌, length}
use Rattle.lvm_quorum.specs.passed.Transfer.{IsOfRecord}
use Rattle.lvm_write.specs.Parts.{write_to, PartsStand}
use Rattle.lvm_num.specs.Buffer.{Buffer}
use Rattle.lvm_num.specs.Record.{record_sectors}
use Rattle.lvm_write.proofs.PartsLemmas.Transfers.{none_written, piece_written, part_then, not_done}
use Rattle.lvm_write.proofs.write.write_slot.Goals as goal

pub loop-first-init : goal.loop-first-init
loop-first-init g c = record {
  wrote = none_written (write_to c.args.one) c.args.one.disk c.args.patience.now.left (g.S.Shelf.device c.args.shelf.now) c.args.buf c.requires.ready;
  within = omega arith;
}

pub returns-in_default : goal.returns-in_default
returns-in_default g c =
    let w = write_to c.args.one in
    let new = g.S.Shelf.device c.write_piece.new.shelf in
    record {
      part = part_then w.targets (IsOfRecord w) c.args.one.disk c.args.buf.number c.args.patience.now.left c.loop-first.patience.left c.write_piece.new.patience.left (g.S.Shelf.device c.args.shelf.now) (g.S.Shelf.device c.loop-first.shelf) new
          c.loop-first.buf c.write_piece.result c.loop-first.invariant.wrote.part c.write_piece.ensures.part;
      stands = not_done c.write_piece.result (λ (back : Buffer). PartsStand w new c.args.one.disk 0 (record_sectors (length c.args.one.content.now))) c.in_default.not-Done;
    }

pub loop-first-preserved : goal.loop-first-preserved
loop-first-preserved g c = record {
  wrote = piece_written (write_to c.args.one) c.args.one.disk c.args.buf.number c.args.patience.now.left c.loop-first.patience.left c.write_piece.new.patience.left (g.S.Shelf.device c.args.shelf.now) (g.S.Shelf.device c.loop-first.shelf)
      (g.S.Shelf.device c.write_piece.new.shelf) c.loop-first.buf c.in-Done.back c.loop-first.first (c.loop-first.first + c.min-count.result) c.loop-first.invariant.wrote c.in-Done.ensures.part c.in-Done.ensures.stands;
  within = let e = c.min-count.ensures in let f = c.loop-first-test.true in omega (arith, e, f);
}
