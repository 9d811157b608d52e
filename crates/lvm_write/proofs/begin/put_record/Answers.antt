use Rattle.lvm_num.specs.Disks.{Disks, has}
use Rattle.lvm_rec.specs.Homes.{Flips}
use Rattle.lvm_write.specs.Written.{write_of, StandsTold}
use Rattle.lvm_write.proofs.RunsLemmas.Answering.{how_one, all_flip}
use Rattle.lvm_write.proofs.begin.put_record.Goals as goal

pub returns-clause-gives : goal.returns-clause-gives
returns-clause-gives g c =
    let e = c.write_record-wrote.ensures in
    let w = write_of c.args.kind (record { stamp = c.args.stamp; content = c.args.content.now }) (has c.args.targets) c.args.homes.now in
    record {
      does = e.leaves;
      how = how_one (has c.args.targets) (StandsTold w) (λ (written : Disks). Flips c.args.kind written c.args.homes.now c.write_record-wrote.new.homes) c.args.buf.number c.args.patience.now.left (g.S.Shelf.device c.args.shelf.now) (g.S.Shelf.device c.write_record-wrote.new.shelf) c.write_record-wrote.result c.all_or_lowest.result
          c.all_or_lowest.ensures e.ends;
    }

pub returns-clause-homes : goal.returns-clause-homes
returns-clause-homes g c =
    all_flip (write_of c.args.kind (record { stamp = c.args.stamp; content = c.args.content.now }) (has c.args.targets) c.args.homes.now) c.args.homes.now c.write_record-wrote.new.homes c.args.buf.number c.args.patience.now.left (g.S.Shelf.device c.args.shelf.now) (g.S.Shelf.device c.write_record-wrote.new.shelf)
    c.write_record-wrote.result c.all_or_lowest.result c.all_or_lowest.ensures c.write_record-wrote.ensures.ends
