use Rattle.lvm_session.proofs.WorkedLemmas.Worked.{answers_are_told}
use Rattle.lvm_session.proofs.laws.answers_are_told.Goals as goal

pub returns : goal.returns
returns c = answers_are_told
