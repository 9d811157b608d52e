-- Passed on from `lvm_rest`.
pub use Rattle.lvm_rest.proofs.ClosedLemmas.{landed_are_closed}
