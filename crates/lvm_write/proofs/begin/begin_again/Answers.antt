use Rattle.lvm_num.specs.Disks.{has}
use Rattle.lvm_write.specs.Beginning.{Beginning, again_beginning, again_order}
use Rattle.lvm_write.proofs.EndsLemmas.{begin_ends}
use Rattle.lvm_write.proofs.KeptLemmas.Again.{again_stays_kept}
use Rattle.lvm_write.proofs.begin.begin_again.Goals as goal

pub returns : goal.returns
returns g c =
    let b : Beginning = again_beginning c.args.epoch c.args.descriptor.now c.args.status.now (has c.args.targets) c.args.homes.now in
    let e = c.write_again.ensures in
    record {
      ends = begin_ends b (again_order c.args.forget) c.args.buf.number c.args.patience.now.left c.write_again.new.homes (g.S.Shelf.device c.args.shelf.now) (g.S.Shelf.device c.write_again.new.shelf) c.write_again.result e.gives.how e.homes;
      leaves = e.gives.does;
      kept = again_stays_kept b c.args.forget (g.S.Shelf.device c.args.shelf.now) (g.S.Shelf.device c.write_again.new.shelf) c.requires.ready.flights e.gives.does.moments e.gives.begun;
    }
