-- Passed on from `lvm_keeps_events`.
pub use Rattle.lvm_range_lines.proofs.passed.KeepsEvents.{votes_go}
