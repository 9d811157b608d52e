-- Passed on from `lvm_varyon`.
pub use Rattle.lvm_range_lines.proofs.passed.Varyon.{HasWrote, failed_rests, failed_rose, found_restated, holds_finds, second_fits, status_fits, wrote_broken, wrote_equalled, wrote_failed}
