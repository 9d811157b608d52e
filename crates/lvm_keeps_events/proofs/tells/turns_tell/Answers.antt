use Rattle.lvm_keeps_events.proofs.TellingLemmas.Telling.{turn_tells}
use Rattle.lvm_keeps_events.proofs.tells.turns_tell.Goals as goal

pub returns : goal.returns
returns c = λ old new answer sound made. turn_tells old new sound answer made
