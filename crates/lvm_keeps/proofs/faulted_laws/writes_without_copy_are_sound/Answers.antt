use Rattle.lvm_keeps.proofs.UnreadLemmas.{writes_without_copy_are_sound}
use Rattle.lvm_keeps.proofs.faulted_laws.writes_without_copy_are_sound.Goals as goal

pub returns : goal.returns
returns c = writes_without_copy_are_sound c.held_writes_are_sound.ensures
