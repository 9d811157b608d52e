use Rattle.std.proofs.Common.{◌≡◌, ◌++◌, take}
use Rattle.std.specs.Prelude.{flat_map}
use Rattle.lvm_num.specs.DescriptorBytes.{member_bytes}
use Rattle.lvm_vgda.proofs.writing.put_members.Given as goal

abbrev pub invariant-loop-row : goal.invariant-loop-row
invariant-loop-row l = l.out.items ≡ l.fn.out.items ++ flat_map member_bytes (take l.row-index l.rows)
