use Rattle.lvm_num.proofs.BitsLemmas.{has-none}
use Rattle.lvm_write.proofs.next.no_marks.Goals as goal

pub returns : goal.returns
returns c = has-none 127
