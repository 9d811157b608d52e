-- Passed on from `lvm_split`, and of the rows of both volumes from `lvm_volume_plan`.
pub use Rattle.lvm_split.specs.Parting.{IsHeldBack, splitting}
pub use Rattle.lvm_split.specs.Splitting.{IsSplit, IsVolumeSplit, SplitGives, SplittingEnds, SplittingHalts, to_split}
pub use Rattle.lvm_volume_plan.specs.Split.{MayBeSplit, kept_row, split_row, with_split}
