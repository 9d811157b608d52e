-- Passed on from `lvm_group`.
pub use Rattle.lvm_volume_lines.specs.passed.Group.{Breaks, HasGroup, IfShown, IsAsBefore, IsClear, MkvgRefuses, NewGroup, SparesTold, beginning_for, least_size, most_sectors, new_group, new_status, size_for, sizes_in_order}
