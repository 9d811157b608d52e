-- Passed on from `lvm_keeps_events`.
pub use Rattle.lvm_driver.specs.passed.KeepsEvents.{TurnTells, power_by}
pub use Rattle.lvm_keeps_events.specs.Losing.{LosesByFaults, LosesVotesByFaults, LostForFaults}
pub use Rattle.lvm_keeps_events.specs.Losses.{MarksFor, has_failed_on, is_lasting, is_marked, is_open_at}
