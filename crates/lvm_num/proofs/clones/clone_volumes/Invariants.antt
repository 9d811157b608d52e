use Rattle.std.proofs.Common.{◌≡◌, take}
use Rattle.lvm_num.proofs.clones.clone_volumes.Given as goal

abbrev pub invariant-loop-volume : goal.invariant-loop-volume
invariant-loop-volume l = l.clones.items ≡ take l.volume-index l.volumes
