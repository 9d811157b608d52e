-- Passed on from `lvm_going`.
pub use Rattle.lvm_going.proofs.HistoriesLemmas.{ends_history}
pub use Rattle.lvm_going.proofs.GoingLemmas.{path_frames, path_shape}
pub use Rattle.lvm_going.proofs.JoinsLemmas.{leaves_both, leaves_none, goes_any, runs_both, runs_none, stays_unstuck}
pub use Rattle.lvm_going.proofs.ShapesLemmas.{Given, given, turn_goes}
