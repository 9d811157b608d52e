use Rattle.lvm_top.proofs.LeftLemmas.{left_is_earlier, next_after_cut, left_is_behind}
use Rattle.lvm_top.proofs.laws.left_is_earlier.Goals as goal

pub returns : goal.returns
returns c = record { left = left_is_earlier; next = next_after_cut; behind = left_is_behind }
