-- Passed on from `lvm_session_start`.
pub use Rattle.lvm_core.specs.passed.SessionStart.{AreFaults, Parts, first_core}
