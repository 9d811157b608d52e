-- Passed on from `lvm_split`, and of the rows of both volumes from `lvm_volume_plan`.
pub use Rattle.lvm_tie_commands.specs.passed.Splitting.{IsHeldBack, IsSplit, IsVolumeSplit, MayBeSplit, SplitGives, SplittingEnds, SplittingHalts, kept_row, split_row, splitting, to_split, with_split}
pub use Rattle.lvm_tie_commands.specs.Sharing.{ShareContent, HoldTheSame}
