-- Passed on from the crates below.
pub use Rattle.lvm_num.proofs.Booleans.{first_holds, second_holds, first_with_second, same_answer, none_below}
