-- Passed on from `lvm_commit`.
pub use Rattle.lvm_commit.proofs.AmongLemmas.{IsOnePlace, contains, of_map, of_rows, one_place}
pub use Rattle.lvm_commit.proofs.LawsLemmas.Found.{shown_is_only}
pub use Rattle.lvm_commit.proofs.LawsOfDataLemmas.Still.{still_holds_committed}
pub use Rattle.lvm_commit.proofs.LawsOfVolumesLemmas.Volumes.{volume_begins_in_session, volume_is_gone_in_session, volume_is_made_in_session, zeros_are_found}
pub use Rattle.lvm_commit.proofs.SettlingLemmas.Chaining.{keeps_wider}
