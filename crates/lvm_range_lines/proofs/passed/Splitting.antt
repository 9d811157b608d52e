-- Passed on from `lvm_tie_commands`, of splits.
pub use Rattle.lvm_group_lines.proofs.passed.Splitting.{split_goes_on, split_leaves_serving, split_shares}
