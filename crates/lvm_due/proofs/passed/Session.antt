-- Passed on from the crates below.
pub use Rattle.lvm_session.proofs.passed.Hold.{blocked_tells}
