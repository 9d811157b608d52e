use Rattle.lvm_settled.proofs.ExamplesLemmas.Notes.{pairs_have_notes_home}
use Rattle.lvm_settled.proofs.laws.pairs_have_notes_home.Goals as goal

pub returns : goal.returns
returns c = pairs_have_notes_home
