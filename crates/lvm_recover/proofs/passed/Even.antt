-- Passed on from `lvm_even`.
pub use Rattle.lvm_even.proofs.ExamplesLemmas.Examples.{behind, enough, is_naming, naming_read, shows, torn_below, valid}
pub use Rattle.lvm_even.proofs.ExamplesLemmas.Pairs.{both_copies, the_row}
pub use Rattle.lvm_even.proofs.ExamplesLemmas.Slots.{first_partition}
pub use Rattle.lvm_even.proofs.ExamplesLemmas.Sectors.{told}
pub use Rattle.lvm_even.proofs.Rows.{mib_positive, row_is_volume}
