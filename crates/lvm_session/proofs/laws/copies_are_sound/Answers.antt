use Rattle.lvm_session.proofs.WorkedLemmas.BroughtUp.{copies_are_sound}
use Rattle.lvm_session.proofs.laws.copies_are_sound.Goals as goal

pub returns : goal.returns
returns c = copies_are_sound
