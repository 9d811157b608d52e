-- Passed on from `lvm_going`.
pub use Rattle.lvm_going.proofs.JoinsLemmas.{goes_any, order_leaves, runs_one}
pub use Rattle.lvm_ranges.proofs.passed.Tie.{path_frames, path_shape, runs_both, runs_none, stays_unstuck}
