use Rattle.lvm_volumes.proofs.EvenLemmas.Even.{mklv_keeps_even}
use Rattle.lvm_volumes.proofs.even_laws.mklv_keeps_even.Goals as goal

pub returns : goal.returns
returns c = mklv_keeps_even
