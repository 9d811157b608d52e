use Rattle.lvm_mwc.proofs.NotesLemmas.{named_after_all}
use Rattle.lvm_mwc.proofs.laws.named_groups_stay.Goals as goal

pub returns : goal.returns
returns c = named_after_all
