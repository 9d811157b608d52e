use Rattle.lvm_num.proofs.BitsLemmas.{shift-bit}
use Rattle.lvm_num.proofs.bits.has_bit.Goals as goal

pub returns : goal.returns
returns c = shift-bit c.args.bits.now c.args.bit
