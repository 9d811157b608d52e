-- Passed on from `lvm_rec`.
pub use Rattle.lvm_rec.proofs.RecordLemmas.Slot.{joined-more, joined-none}
pub use Rattle.lvm_rec.proofs.SlotsLemmas.SlotLaws.{held-record, may_write}
