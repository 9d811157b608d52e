use Rattle.lvm_keeps.proofs.CopiesLemmas.{failed_copies_are_sound}
use Rattle.lvm_keeps.proofs.faulted_laws.failed_copies_are_sound.Goals as goal

pub returns : goal.returns
returns c = failed_copies_are_sound c.copies_are_sound.ensures
