use Rattle.lvm_keeps.proofs.FaultedLemmas.Losing.{lost_votes_are_sound}
use Rattle.lvm_keeps.proofs.faulted_laws.lost_votes_are_sound.Goals as goal

pub returns : goal.returns
returns c = lost_votes_are_sound c.held_writes_are_sound.ensures
