-- Passed on from `lvm_group`.
pub use Rattle.lvm_handover.specs.passed.Group.{Breaks, HasGroup, IfShown, IsAsBefore, IsClear, IsMade, MayMakeGroup, MkvgGives, MkvgRefuses, NewGroup, RefusesFirst, SparesTold, beginning_for, given_up, least_size, most_sectors, new_group, new_status, size_for, sizes_in_order}
