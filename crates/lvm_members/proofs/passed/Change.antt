-- Passed on from `lvm_change`.
pub use Rattle.lvm_change.proofs.RefusingLemmas.{big_valid, quorum_valid}
