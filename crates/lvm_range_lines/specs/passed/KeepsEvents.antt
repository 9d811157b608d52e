-- Passed on from `lvm_keeps_events`.
pub use Rattle.lvm_group_lines.specs.passed.KeepsEvents.{TurnTells, power_by, LosesByFaults, LosesVotesByFaults, LostForFaults}
