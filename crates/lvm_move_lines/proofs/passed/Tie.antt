-- Passed on from `lvm_going_laws`.
pub use Rattle.lvm_range_lines.proofs.passed.Tie.{leaves_move_on}
