use Rattle.lvm_transfer.specs.declared.moves.Moved.TheVariants as moved
use Rattle.lvm_transfer.proofs.ReadingLemmas.Transferring.{read_ends, done_bytes, was_read}
use Rattle.lvm_transfer.proofs.reading.read_piece.Goals as goal

pub returns-in-Done-clause-reads : goal.returns-in-Done-clause-reads
returns-in-Done-clause-reads g c =
    read_ends c.args.patience.now.left c.in-Done.ensures.gives.0 c.args.piece.disk c.args.piece.first c.args.piece.count c.args.buf (g.S.Shelf.device c.args.shelf.now) c.requires.ready
    c.transfer.new.patience.left (g.S.Shelf.device c.transfer.new.shelf) (moved.Done c.in-Done.back) c.requires.records c.in-Done.ensures.gives.1 c.in-Done.ensures.rests c.in-Done.ensures.patience c.in-Done.ensures.waited c.in-Done.ensures.costs c.in-Done.ensures.moments

pub returns-in-Failed-clause-reads : goal.returns-in-Failed-clause-reads
returns-in-Failed-clause-reads g c =
    read_ends c.args.patience.now.left c.in-Failed.ensures.gives.0 c.args.piece.disk c.args.piece.first c.args.piece.count c.args.buf (g.S.Shelf.device c.args.shelf.now) c.requires.ready
    c.transfer.new.patience.left (g.S.Shelf.device c.transfer.new.shelf) (moved.Failed c.in-Failed.back) c.requires.records c.in-Failed.ensures.gives.1 c.in-Failed.ensures.rests c.in-Failed.ensures.patience c.in-Failed.ensures.waited c.in-Failed.ensures.costs c.in-Failed.ensures.moments

pub returns-in-Dark-clause-reads : goal.returns-in-Dark-clause-reads
returns-in-Dark-clause-reads g c =
    read_ends c.args.patience.now.left c.in-Dark.ensures.gives.0 c.args.piece.disk c.args.piece.first c.args.piece.count c.args.buf (g.S.Shelf.device c.args.shelf.now) c.requires.ready
    c.transfer.new.patience.left (g.S.Shelf.device c.transfer.new.shelf) (moved.Dark c.in-Dark.started) c.requires.records c.in-Dark.ensures.gives.1 c.in-Dark.ensures.rests c.in-Dark.ensures.patience c.in-Dark.ensures.waited c.in-Dark.ensures.costs c.in-Dark.ensures.moments

pub returns-in-Stuck-clause-reads : goal.returns-in-Stuck-clause-reads
returns-in-Stuck-clause-reads g c =
    read_ends c.args.patience.now.left c.in-Stuck.ensures.gives.0 c.args.piece.disk c.args.piece.first c.args.piece.count c.args.buf (g.S.Shelf.device c.args.shelf.now) c.requires.ready
    c.transfer.new.patience.left (g.S.Shelf.device c.transfer.new.shelf) moved.Stuck c.requires.records c.in-Stuck.ensures.gives.1 c.in-Stuck.ensures.rests c.in-Stuck.ensures.patience c.in-Stuck.ensures.waited c.in-Stuck.ensures.costs c.in-Stuck.ensures.moments

pub returns-in-Done-clause-bytes : goal.returns-in-Done-clause-bytes
returns-in-Done-clause-bytes g c =
    done_bytes c.args.patience.now.left c.in-Done.ensures.gives.0 c.args.piece.disk c.args.piece.first c.args.piece.count c.args.buf (g.S.Shelf.device c.args.shelf.now) c.requires.ready (g.S.Shelf.device c.transfer.new.shelf)
    c.in-Done.back c.in-Done.ensures.gives.1

pub returns-in-Done-clause-whole : goal.returns-in-Done-clause-whole
returns-in-Done-clause-whole g c =
    was_read c.args.patience.now.left c.in-Done.ensures.gives.0 c.args.piece.disk c.args.piece.first c.args.piece.count c.args.buf (g.S.Shelf.device c.args.shelf.now) c.requires.ready (g.S.Shelf.device c.transfer.new.shelf)
    c.in-Done.back c.in-Done.ensures.gives.1
