-- Passed on from `lvm_tie_commands`.
pub use Rattle.lvm_range_lines.specs.passed.TieCommands.{IsLeftStandingSince, MayBeCommanded, MayServeWith, StandsAfter, added_by}
