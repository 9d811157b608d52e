use Rattle.lvm_keeps.proofs.FaultedLemmas.Losing.{ended_sessions_are_sound}
use Rattle.lvm_keeps.proofs.faulted_laws.ended_sessions_are_sound.Goals as goal

pub returns : goal.returns
returns c = ended_sessions_are_sound c.held_writes_are_sound.ensures
