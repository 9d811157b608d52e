use Rattle.lvm_invariant.proofs.EventsLemmas.Each.{end_note_keeps as lemma_of}
use Rattle.lvm_invariant.proofs.laws.note_ends.Goals as goal

pub returns : goal.returns
returns c = lemma_of
