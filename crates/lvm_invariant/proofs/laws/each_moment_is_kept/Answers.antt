use Rattle.lvm_invariant.proofs.EventsLemmas.Each.{each_moment as lemma_of}
use Rattle.lvm_invariant.proofs.laws.each_moment_is_kept.Goals as goal

pub returns : goal.returns
returns c = lemma_of
