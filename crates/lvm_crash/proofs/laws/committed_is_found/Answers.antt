use Rattle.lvm_crash.proofs.StandingLemmas.{committed_found as lemma_of}
use Rattle.lvm_crash.proofs.laws.committed_is_found.Goals as goal

pub returns : goal.returns
returns c = lemma_of
