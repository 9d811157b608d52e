-- Passed on from `lvm_tie_commands`, of splits.
pub use Rattle.lvm_tie_commands.proofs.CopiesLemmas.Splitting.{split_goes_on}
pub use Rattle.lvm_tie_commands.proofs.ServingLemmas.Splitting.{split_leaves_serving}
pub use Rattle.lvm_tie_commands.proofs.CopiesLemmas.Sharing.{split_shares}
