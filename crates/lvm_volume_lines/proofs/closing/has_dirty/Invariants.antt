use Rattle.std.proofs.Common.{◌≡◌, drop}
use Rattle.lvm_volume_lines.specs.Closing.{any_dirty}
use Rattle.lvm_volume_lines.proofs.closing.has_dirty.Given as goal

abbrev pub invariant-loop-row : goal.invariant-loop-row
invariant-loop-row l = any_dirty (drop l.row-index l.group.lvs) l.table ≡ any_dirty l.group.lvs l.table
