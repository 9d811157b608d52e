use Rattle.lvm_keeps.proofs.CopiesLemmas.{whole_copies_are_sound}
use Rattle.lvm_keeps.proofs.faulted_laws.whole_copies_are_sound.Goals as goal

pub returns : goal.returns
returns c = whole_copies_are_sound c.copies_are_sound.ensures
