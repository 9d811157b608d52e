-- Passed on from `lvm_num`.
pub use Rattle.lvm_num.proofs.Booleans.{and_false, and_true, or_false, same_itself, same_turned, four_hold}
pub use Rattle.lvm_num.proofs.Lists.{any_map}
