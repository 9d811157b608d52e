-- Passed on from `lvm_keeps_events`.
pub use Rattle.lvm_driver.proofs.passed.KeepsEvents.{at_place, counted_at, last_count, seen_open_keeps, turn_counts, turn_keeps}
pub use Rattle.lvm_keeps_events.proofs.EndsLemmas.CopyReadFail.{of_place}
pub use Rattle.lvm_keeps_events.proofs.JudgingLemmas.DuesMarks.{own_pp, pp_same}
pub use Rattle.lvm_keeps_events.proofs.KeepsFallsLemmas.Standing.{never_stands_still, none_waits_at_all}
pub use Rattle.lvm_keeps_events.proofs.LosingLemmas.Losing.{loses_both, loses_none, turn_loses}
pub use Rattle.lvm_keeps_events.proofs.LosingLemmas.Votes.{votes_go}
pub use Rattle.lvm_keeps_events.proofs.LossesLemmas.Reviewing.{reviewed}
pub use Rattle.lvm_keeps_events.proofs.LossesLemmas.Turning.{turn_marks}
