use Rattle.lvm_invariant.proofs.EventsLemmas.Each.{land_no_fresh_keeps as lemma_of}
use Rattle.lvm_invariant.proofs.laws.no_copy_is_fresh.Goals as goal

pub returns : goal.returns
returns c = lemma_of
