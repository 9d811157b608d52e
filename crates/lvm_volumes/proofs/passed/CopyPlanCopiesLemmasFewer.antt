-- Passed on from the crates below.
pub use Rattle.lvm_volume_plan.proofs.CopiesLemmas.Fewer.{old_copies}
