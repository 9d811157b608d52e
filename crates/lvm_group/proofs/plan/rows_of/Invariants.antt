use Rattle.std.proofs.Common.{◌≡◌}
use Rattle.std.specs.Prelude.{map, filter}
use Rattle.std.specs.List.{range_with_len}
use Rattle.lvm_num.specs.Disks.{has}
use Rattle.lvm_group.specs.NewGroup.{clear_row}
use Rattle.lvm_group.proofs.plan.rows_of.Given as goal

abbrev pub invariant-loop-disk : goal.invariant-loop-disk
invariant-loop-disk l = l.rows.items ≡ map clear_row (filter (has l.disks) (range_with_len 0 l.disk))
