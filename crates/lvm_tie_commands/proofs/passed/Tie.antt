-- Passed on from `lvm_going`.
pub use Rattle.lvm_handover.proofs.passed.Going.{goes_any, order_leaves, path_frames, path_shape, runs_both, runs_none, stays_unstuck}
