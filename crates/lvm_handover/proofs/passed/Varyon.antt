-- Passed on from `lvm_varyon`.
pub use Rattle.lvm_varyon.proofs.EqualLemmas.Wrote.{HasWrote, failed_rests, failed_rose, found_restated, same_orders, wrote_broken, wrote_equalled, wrote_failed}
pub use Rattle.lvm_varyon.proofs.GroupLemmas.{holds_finds}
pub use Rattle.lvm_varyon.proofs.RecordLemmas.{status_fits}
pub use Rattle.lvm_varyon.proofs.SecondLemmas.{second_fits}
