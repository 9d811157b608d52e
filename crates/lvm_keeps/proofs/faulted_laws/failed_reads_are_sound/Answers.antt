use Rattle.lvm_keeps.proofs.UnreadLemmas.{failed_reads_are_sound}
use Rattle.lvm_keeps.proofs.faulted_laws.failed_reads_are_sound.Goals as goal

pub returns : goal.returns
returns c = failed_reads_are_sound c.held_writes_are_sound.ensures
