use Rattle.lvm_move_keeps.proofs.StuckLemmas.{stuck_sessions_may_wait as lemma_of}
use Rattle.lvm_move_keeps.proofs.laws.stuck_sessions_may_wait.Goals as goal

pub returns : goal.returns
returns c = lemma_of
