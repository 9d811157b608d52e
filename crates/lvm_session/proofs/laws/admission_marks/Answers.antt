use Rattle.lvm_session.proofs.WorkedLemmas.Worked.{admission_marks}
use Rattle.lvm_session.proofs.laws.admission_marks.Goals as goal

pub returns : goal.returns
returns c = admission_marks
