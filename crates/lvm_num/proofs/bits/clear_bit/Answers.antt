use Rattle.lvm_num.proofs.BitsLemmas.{has-clear}
use Rattle.lvm_num.proofs.bits.clear_bit.Goals as goal

pub returns : goal.returns
returns c = has-clear c.args.bits.now c.args.bit c.requires
