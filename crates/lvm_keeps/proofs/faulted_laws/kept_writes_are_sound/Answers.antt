use Rattle.lvm_keeps.proofs.FailingLemmas.{kept_writes_are_sound}
use Rattle.lvm_keeps.proofs.faulted_laws.kept_writes_are_sound.Goals as goal

pub returns : goal.returns
returns c = kept_writes_are_sound c.held_writes_are_sound.ensures
