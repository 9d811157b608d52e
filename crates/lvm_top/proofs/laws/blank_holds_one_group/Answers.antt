use Rattle.lvm_top.proofs.PlainLemmas.{blank_holds_one_group}
use Rattle.lvm_top.proofs.laws.blank_holds_one_group.Goals as goal

pub returns : goal.returns
returns c = blank_holds_one_group
