use Rattle.std.proofs.Common.{◌≡◌, ◌++◌, take}
use Rattle.std.specs.Prelude.{flat_map}
use Rattle.lvm_num.specs.DescriptorBytes.{partition_bytes}
use Rattle.lvm_vgda.proofs.writing.put_map.Given as goal

abbrev pub invariant-loop-pp : goal.invariant-loop-pp
invariant-loop-pp l = l.out.items ≡ l.fn.out.items ++ flat_map partition_bytes (take l.pp-index l.map)
