-- Passed on from `lvm_going` and `lvm_going_laws`.
pub use Rattle.lvm_volume_lines.proofs.passed.Tie.{goes_any, going_leaves, going_moves_on, moves_find_theirs, path_frames, path_shape, runs_both, runs_none}
pub use Rattle.lvm_move_lines.proofs.passed.Tie.{leaves_move_on}
