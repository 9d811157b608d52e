use Rattle.lvm_num.proofs.BitsLemmas.{has-set}
use Rattle.lvm_num.proofs.bits.set_bit.Goals as goal

pub returns : goal.returns
returns c = has-set c.args.bits.now c.args.bit c.requires
