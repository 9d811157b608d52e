-- Passed on from `lvm_group`.
pub use Rattle.lvm_group.specs.Made.{Breaks, IsAsBefore, IsMade, MkvgGives, MkvgRefuses, beginning_for}
pub use Rattle.lvm_group.specs.NewGroup.{MayMakeGroup, NewGroup, RefusesFirst, given_up, least_size, most_sectors, new_group, new_status, size_for, sizes_in_order}
pub use Rattle.lvm_group.specs.Shown.{HasGroup, IfShown, IsClear, SparesTold}
