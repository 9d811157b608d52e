-- Passed on from `lvm_going`.
pub use Rattle.lvm_line.proofs.passed.Tie.{path_frames, runs_both, goes_any, path_shape, runs_none}
