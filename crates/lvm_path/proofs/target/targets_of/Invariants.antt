use Rattle.std.proofs.Common.{◌≡◌, take}
use Rattle.lvm_path.proofs.target.targets_of.Given as goal

abbrev pub invariant-loop-target : goal.invariant-loop-target
invariant-loop-target l = l.list.items ≡ take l.target-index l.targets
