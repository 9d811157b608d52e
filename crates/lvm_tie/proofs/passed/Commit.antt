-- Passed on from `lvm_commit`.
pub use Rattle.lvm_commit.proofs.LawsLemmas.Found.{shows_group}
pub use Rattle.lvm_commit.proofs.LawsOfFindingLemmas.NoMore.{rest_finds_nothing_new}
pub use Rattle.lvm_commit.proofs.RecordLemmas.{status_fits}
