use Rattle.lvm_crash.proofs.LawsLemmas.Remaining.{remains_kept as lemma_of}
use Rattle.lvm_crash.proofs.laws.what_remains_is_kept.Goals as goal

pub returns : goal.returns
returns c = lemma_of
