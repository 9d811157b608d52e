-- Passed on from `lvm_tie_commands`.
pub use Rattle.lvm_tie_commands.specs.Commands.{IsAloneAtFirst, IsLeftStanding, IsLeftStandingSince, MayBeCommanded}
pub use Rattle.lvm_tie_commands.specs.Serving.{MayServeWith, added_by}
pub use Rattle.lvm_tie_commands.specs.Standing.{StandsAfter, StandsSince}
