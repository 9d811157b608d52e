use Rattle.lvm_mwc.proofs.NotesLemmas.{known_after_all}
use Rattle.lvm_mwc.proofs.laws.sectors_are_known.Goals as goal

pub returns : goal.returns
returns c = known_after_all
