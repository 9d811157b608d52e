-- Passed on from `lvm_varyon`.
pub use Rattle.lvm_tie_commands.proofs.passed.Varyon.{HasWrote, failed_rests, failed_rose, found_restated, holds_finds, same_orders, second_fits, status_fits, wrote_broken, wrote_equalled, wrote_failed}
