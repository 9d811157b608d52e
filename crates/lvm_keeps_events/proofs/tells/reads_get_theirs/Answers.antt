use Rattle.lvm_keeps_events.proofs.ReadingLemmas.{turn_gets}
use Rattle.lvm_keeps_events.proofs.tells.reads_get_theirs.Goals as goal

pub returns : goal.returns
returns c = λ old new answer sound made. turn_gets old new sound answer made
