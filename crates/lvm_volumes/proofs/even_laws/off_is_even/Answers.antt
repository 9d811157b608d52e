use Rattle.lvm_volumes.proofs.EvenLemmas.Off.{off_is_even as lemma_of}
use Rattle.lvm_volumes.proofs.even_laws.off_is_even.Goals as goal

pub returns : goal.returns
returns c = lemma_of
