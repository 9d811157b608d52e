-- Passed on from `lvm_tie_commands`.
pub use Rattle.lvm_group_lines.specs.passed.TieCommands.{IsAloneAtFirst, IsLeftStanding, IsLeftStandingSince, MayBeCommanded, MayServeWith, StandsAfter, StandsSince, added_by}
