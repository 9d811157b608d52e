-- Passed on from `lvm_group`.
pub use Rattle.lvm_tie_commands.proofs.passed.Group.{IsBeginning, are_members, is_there, may_begin, size_positive, valid_group, valid_status}
