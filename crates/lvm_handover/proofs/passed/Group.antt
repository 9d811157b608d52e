-- Passed on from `lvm_group`.
pub use Rattle.lvm_group.proofs.Keeping.{IsBeginning, may_begin}
pub use Rattle.lvm_group.proofs.NewGroupLemmas.Groups.{are_members, is_there, size_positive, valid_group, valid_status}
