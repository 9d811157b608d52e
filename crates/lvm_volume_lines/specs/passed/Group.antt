-- Passed on from `lvm_group`.
pub use Rattle.lvm_range_lines.specs.passed.Group.{Breaks, HasGroup, IfShown, IsAsBefore, IsClear, MkvgRefuses, NewGroup, RefusesFirst, SparesTold, beginning_for, least_size, most_sectors, new_group, new_status, size_for, sizes_in_order}
