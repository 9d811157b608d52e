-- Passed on from `lvm_calls`.
pub use Rattle.lvm_calls.proofs.LogLemmas.{below_next}
