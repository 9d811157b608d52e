use Rattle.lvm_num.specs.Disks.{Disks, has}
use Rattle.lvm_write.specs.Notes.{empty_note_sector, NoteTold}
use Rattle.lvm_write.proofs.RunsLemmas.Answering.{how_one}
use Rattle.lvm_write.proofs.begin.forget_notes.Goals as goal

pub returns : goal.returns
returns g c =
    let e = c.empty_notes-wrote.ensures in
    record {
      gives = record {
        does = e.leaves;
        how = how_one (has c.args.targets) (NoteTold (empty_note_sector c.args.epoch)) (λ (written : Disks). Unit {0}) c.args.buf.number c.args.patience.now.left (g.S.Shelf.device c.args.shelf.now) (g.S.Shelf.device c.empty_notes-wrote.new.shelf) c.empty_notes-wrote.result c.all_or_lowest.result
            c.all_or_lowest.ensures e.ends;
      };
    }
