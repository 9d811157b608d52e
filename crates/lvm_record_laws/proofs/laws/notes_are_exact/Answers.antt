use Rattle.lvm_num.proofs.NoteLemmas.{written_is_read}
use Rattle.lvm_record_laws.proofs.laws.notes_are_exact.Goals as goal

pub returns : goal.returns
returns c = written_is_read
