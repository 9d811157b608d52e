-- Passed on from `lvm_keeps_events`.
pub use Rattle.lvm_ranges.specs.passed.KeepsEvents.{LosesByFaults, LosesVotesByFaults, LostForFaults, TurnTells, power_by}
