use Rattle.lvm_volumes.proofs.EvenLemmas.Off.{zeroed_volume_is_even as lemma_of}
use Rattle.lvm_volumes.proofs.even_laws.zeroed_volume_is_even.Goals as goal

pub returns : goal.returns
returns c = lemma_of
