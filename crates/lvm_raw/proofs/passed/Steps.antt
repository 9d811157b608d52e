-- Passed on from `lvm_steps`.
pub use Rattle.lvm_steps.proofs.LawsLemmas.Shelves.{unwritten_stays_behind}
