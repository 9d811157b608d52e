use Rattle.lvm_transfer.specs.declared.moves.Moved.TheVariants as moved
use Rattle.lvm_recovery.proofs.CopyingLemmas.Moving.{step_gives}
use Rattle.lvm_recovery.proofs.copying.step.Goals as goal

pub returns-in-Done : goal.returns-in-Done
returns-in-Done g c = record {
  gives = step_gives c.args.write c.args.place c.args.buf c.args.patience.now.left c.in-Done.ensures.gives.0 (g.S.Shelf.device c.args.shelf.now) (g.S.Shelf.device c.transfer.new.shelf) c.requires.range.data_there c.requires.ready c.requires.full
      c.transfer.new.patience.left (moved.Done c.in-Done.buf) c.in-Done.ensures.gives.1 c.in-Done.ensures.rests c.in-Done.ensures.patience c.in-Done.ensures.waited c.in-Done.ensures.moments;
}

pub returns-in-Failed : goal.returns-in-Failed
returns-in-Failed g c = record {
  gives = step_gives c.args.write c.args.place c.args.buf c.args.patience.now.left c.in-Failed.ensures.gives.0 (g.S.Shelf.device c.args.shelf.now) (g.S.Shelf.device c.transfer.new.shelf) c.requires.range.data_there c.requires.ready c.requires.full
      c.transfer.new.patience.left (moved.Failed c.in-Failed.buf) c.in-Failed.ensures.gives.1 c.in-Failed.ensures.rests c.in-Failed.ensures.patience c.in-Failed.ensures.waited c.in-Failed.ensures.moments;
}

pub returns-in-Dark : goal.returns-in-Dark
returns-in-Dark g c = record {
  gives = step_gives c.args.write c.args.place c.args.buf c.args.patience.now.left c.in-Dark.ensures.gives.0 (g.S.Shelf.device c.args.shelf.now) (g.S.Shelf.device c.transfer.new.shelf) c.requires.range.data_there c.requires.ready c.requires.full
      c.transfer.new.patience.left (moved.Dark c.in-Dark.started) c.in-Dark.ensures.gives.1 c.in-Dark.ensures.rests c.in-Dark.ensures.patience c.in-Dark.ensures.waited c.in-Dark.ensures.moments;
}

pub returns-in-Stuck : goal.returns-in-Stuck
returns-in-Stuck g c = record {
  gives = step_gives c.args.write c.args.place c.args.buf c.args.patience.now.left c.in-Stuck.ensures.gives.0 (g.S.Shelf.device c.args.shelf.now) (g.S.Shelf.device c.transfer.new.shelf) c.requires.range.data_there c.requires.ready c.requires.full
      c.transfer.new.patience.left moved.Stuck c.in-Stuck.ensures.gives.1 c.in-Stuck.ensures.rests c.in-Stuck.ensures.patience c.in-Stuck.ensures.waited c.in-Stuck.ensures.moments;
}
