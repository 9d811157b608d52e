-- Passed on from the crates below.
pub use Rattle.lvm_volume_plan.proofs.CopiesLemmas.More.{free_of, old_or_further, places_of}
