-- Passed on from `lvm_split`, and of the rows of both volumes from `lvm_volume_plan`.
pub use Rattle.lvm_range_lines.specs.passed.Splitting.{IsHeldBack, IsSplit, IsVolumeSplit, MayBeSplit, ShareContent, SplitGives, SplittingEnds, SplittingHalts, kept_row, split_row, splitting, to_split, with_split, HoldTheSame}
