-- Passed on from `lvm_going`.
pub use Rattle.lvm_driver.proofs.passed.Going.{leaves_both, leaves_none, stays_unstuck, Given, given, turn_goes, path_frames, path_shape, goes_any}
