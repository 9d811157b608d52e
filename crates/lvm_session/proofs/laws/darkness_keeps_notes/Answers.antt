use Rattle.lvm_session.proofs.WorkedLemmas.Worked.{darkness_keeps_notes}
use Rattle.lvm_session.proofs.laws.darkness_keeps_notes.Goals as goal

pub returns : goal.returns
returns c = darkness_keeps_notes
