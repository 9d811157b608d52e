use Rattle.lvm_invariant.proofs.EventsLemmas.Each.{start_note_keeps as lemma_of}
use Rattle.lvm_invariant.proofs.laws.note_starts.Goals as goal

pub returns : goal.returns
returns c = lemma_of
