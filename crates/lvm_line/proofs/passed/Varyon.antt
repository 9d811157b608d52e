-- Passed on from `lvm_varyon`.
pub use Rattle.lvm_volume_lines.proofs.passed.Varyon.{HasWrote, failed_rests, found_restated, holds_finds, second_fits, status_fits, wrote_broken, wrote_equalled, wrote_failed}
