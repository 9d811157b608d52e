-- Passed on from `lvm_going`.
pub use Rattle.lvm_driver.proofs.passed.Going.{path_frames, path_shape, runs_both, runs_none, stays_unstuck}
