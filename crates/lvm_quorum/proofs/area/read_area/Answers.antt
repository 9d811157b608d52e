use Rattle.std.proofs.Common.{Ok, Err}
use Rattle.std.proofs.lemmas.Result.{err_from_is_err_and}
use Rattle.lvm_transfer.proofs.ReadingLemmas.Following.{reads_then}
use Rattle.lvm_quorum.proofs.area.read_area.Goals as goal

pub returns-in_err-status-clause-reads : goal.returns-in_err-status-clause-reads
returns-in_err-status-clause-reads g c =
    let p = err_from_is_err_and c.from_residual-in_err-status.result c.from_residual-in_err-status.ensures.1 in
    rw (p.1, p.2) (reads_then c.args.disk c.args.buf.number c.args.patience.now.left c.read_descriptors.new.patience.left c.read_statuses.new.patience.left (g.S.Shelf.device c.args.shelf.now) (g.S.Shelf.device c.read_descriptors.new.shelf) (g.S.Shelf.device c.read_statuses.new.shelf) c.in_ok-descriptor.buf (Err c.in_err-status.field-0.0) c.in_ok-descriptor.ensures.reads c.in_err-status.ensures.reads)

pub returns-in_err-note-clause-reads : goal.returns-in_err-note-clause-reads
returns-in_err-note-clause-reads g c =
    let p = err_from_is_err_and c.from_residual-in_err-note.result c.from_residual-in_err-note.ensures.1 in
    rw (p.1, p.2) (reads_then c.args.disk c.args.buf.number c.args.patience.now.left c.read_statuses.new.patience.left c.read_note.new.patience.left (g.S.Shelf.device c.args.shelf.now) (g.S.Shelf.device c.read_statuses.new.shelf) (g.S.Shelf.device c.read_note.new.shelf) c.in_ok-status.buf (Err c.in_err-note.field-0.0)
    (reads_then c.args.disk c.args.buf.number c.args.patience.now.left c.read_descriptors.new.patience.left c.read_statuses.new.patience.left (g.S.Shelf.device c.args.shelf.now) (g.S.Shelf.device c.read_descriptors.new.shelf) (g.S.Shelf.device c.read_statuses.new.shelf) c.in_ok-descriptor.buf (Ok c.in_ok-status.buf) c.in_ok-descriptor.ensures.reads c.in_ok-status.ensures.reads) c.in_err-note.ensures.reads)

pub returns-clause-reads : goal.returns-clause-reads
returns-clause-reads g c =
    reads_then c.args.disk c.args.buf.number c.args.patience.now.left c.read_statuses.new.patience.left c.read_note.new.patience.left (g.S.Shelf.device c.args.shelf.now) (g.S.Shelf.device c.read_statuses.new.shelf) (g.S.Shelf.device c.read_note.new.shelf) c.in_ok-status.buf (Ok c.in_ok-note.buf)
    (reads_then c.args.disk c.args.buf.number c.args.patience.now.left c.read_descriptors.new.patience.left c.read_statuses.new.patience.left (g.S.Shelf.device c.args.shelf.now) (g.S.Shelf.device c.read_descriptors.new.shelf) (g.S.Shelf.device c.read_statuses.new.shelf) c.in_ok-descriptor.buf (Ok c.in_ok-status.buf) c.in_ok-descriptor.ensures.reads c.in_ok-status.ensures.reads) c.in_ok-note.ensures.reads

pub returns-clause-whole : goal.returns-clause-whole
returns-clause-whole g c = record {
  after_descriptors = g.S.Shelf.device c.read_descriptors.new.shelf;
  after_statuses = g.S.Shelf.device c.read_statuses.new.shelf;
  descriptors = c.in_ok-descriptor.ensures.whole;
  statuses = c.in_ok-status.ensures.whole;
  note = c.in_ok-note.ensures.whole;
}
