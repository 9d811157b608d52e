use Rattle.lvm_invariant.proofs.CauseLawsLemmas.WholeCauses.{each_keeps_causes as lemma_of}
use Rattle.lvm_invariant.proofs.causes.each_event_keeps_causes.Goals as goal

pub returns : goal.returns
returns c = lemma_of
