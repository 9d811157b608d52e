-- Passed on from `lvm_volume_plan`.
pub use Rattle.lvm_volume_plan.proofs.CopiesLemmas.Rows.{named, one_found, one_other, own_row}
pub use Rattle.lvm_volume_plan.proofs.Sublists.{one_filter, one_insert}
