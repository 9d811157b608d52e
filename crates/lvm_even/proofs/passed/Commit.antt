-- Passed on from `lvm_commit`.
pub use Rattle.lvm_commit.proofs.AmongLemmas.{contains, of_map, of_rows, one_place}
unfoldable pub use Rattle.lvm_commit.proofs.LawsLemmas.Shown.{still_shows}
pub use Rattle.lvm_commit.proofs.LawsLemmas.Found.{only_found, shows_group, status_read}
pub use Rattle.lvm_commit.proofs.LawsOfDataLemmas.Free.{partition_is}
