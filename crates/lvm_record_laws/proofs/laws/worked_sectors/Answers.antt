use Rattle.std.proofs.Common.{refl}
use Rattle.lvm_num.specs.Note.{entries_below}
use Rattle.lvm_num.specs.Record.{joined, record_in}
use Rattle.lvm_record_laws.proofs.laws.worked_sectors.Goals as goal

pub returns : goal.returns
unfolding joined record_in entries_below
returns c = record { record_spelled = refl; record_read = refl; note_spelled = refl; note_read = refl }
