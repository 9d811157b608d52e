use Rattle.lvm_volumes.proofs.EvenLemmas.Even.{rmlv_keeps_even}
use Rattle.lvm_volumes.proofs.even_laws.rmlv_keeps_even.Goals as goal

pub returns : goal.returns
returns c = rmlv_keeps_even
