use Rattle.lvm_recovery.proofs.CleanLemmas.{left_dirty_is_cleaned as lemma_of}
use Rattle.lvm_recovery.proofs.laws.left_dirty_is_cleaned.Goals as goal

pub returns : goal.returns
returns c = lemma_of
