-- Passed on from `lvm_move_lines`.
pub use Rattle.lvm_move_lines.proofs.FindingLemmas.{is_planned, tried_or_same}
