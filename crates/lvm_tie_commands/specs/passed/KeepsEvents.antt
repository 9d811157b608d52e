-- Passed on from `lvm_keeps_events`.
pub use Rattle.lvm_handover.specs.passed.KeepsEvents.{LosesByFaults, LosesVotesByFaults, LostForFaults, TurnTells, power_by}
