use Rattle.std.proofs.Common.{◌≡◌}
use Rattle.std.specs.Prelude.{map, filter}
use Rattle.std.specs.List.{range_with_len}
use Rattle.lvm_num.specs.Descriptor.{is_member}
use Rattle.lvm_status.specs.Rerowed.{row_for}
use Rattle.lvm_status.proofs.rows.rows_for.Given as goal

abbrev pub invariant-loop-disk : goal.invariant-loop-disk
invariant-loop-disk l = l.rows.items ≡ map (row_for l.said) (filter (is_member l.d) (range_with_len 0 l.disk))
