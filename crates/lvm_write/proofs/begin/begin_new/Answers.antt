use Rattle.lvm_num.specs.Disks.{has}
use Rattle.lvm_write.specs.Beginning.{Beginning, new_beginning, new_order}
use Rattle.lvm_write.proofs.EndsLemmas.{begin_ends}
use Rattle.lvm_write.proofs.KeptLemmas.New.{new_stays_kept}
use Rattle.lvm_write.proofs.begin.begin_new.Goals as goal

pub returns : goal.returns
returns g c =
    let b : Beginning = new_beginning c.args.epoch c.args.descriptor.now c.args.status.now (has c.args.targets) c.args.homes.now in
    let e = c.write_new.ensures in
    record {
      ends = begin_ends b new_order c.args.buf.number c.args.patience.now.left c.write_new.new.homes (g.S.Shelf.device c.args.shelf.now) (g.S.Shelf.device c.write_new.new.shelf) c.write_new.result e.gives.how e.homes;
      leaves = e.gives.does;
      kept = new_stays_kept b (g.S.Shelf.device c.args.shelf.now) (g.S.Shelf.device c.write_new.new.shelf) e.gives.does.moments;
    }
