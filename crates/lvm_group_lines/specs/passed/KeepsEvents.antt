-- Passed on from `lvm_keeps_events`.
pub use Rattle.lvm_tie_commands.specs.passed.KeepsEvents.{LosesByFaults, LosesVotesByFaults, LostForFaults, TurnTells, power_by}
