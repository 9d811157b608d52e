use Rattle.lvm_invariant.proofs.EventsLemmas.Each.{each_keeps as lemma_of}
use Rattle.lvm_invariant.proofs.laws.each_event_keeps_good.Goals as goal

pub returns : goal.returns
returns c = lemma_of
