use Rattle.lvm_keeps_events.proofs.LossesLemmas.Turning.{turn_marks}
use Rattle.lvm_keeps_events.proofs.marks.turns_mark.Goals as goal

pub returns : goal.returns
returns c = λ old new answer sound made. turn_marks old new sound answer made
