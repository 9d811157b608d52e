-- Passed on from `lvm_raw`.
pub use Rattle.lvm_raw.proofs.AskingLemmas.{fewer_pieces}
