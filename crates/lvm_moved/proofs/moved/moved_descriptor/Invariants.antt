use Rattle.std.proofs.Common.{◌≡◌, map, take}
use Rattle.lvm_moved.specs.Moved.{moved_row}
use Rattle.lvm_moved.proofs.moved.moved_descriptor.Given as goal

abbrev pub invariant-loop-row : goal.invariant-loop-row
invariant-loop-row l = l.lvs.items ≡ map (moved_row l.lv l.lp l.number l.to) (take l.row-index l.row-items)
