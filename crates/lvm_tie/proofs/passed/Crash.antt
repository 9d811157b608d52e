-- Passed on from `lvm_crash`.
pub use Rattle.lvm_crash.proofs.DeviceLemmas.{writes_at}
pub use Rattle.lvm_crash.proofs.OwnedLemmas.{reads_none}
pub use Rattle.lvm_crash.proofs.RecordsLemmas.Quiet.{quiet_lasts}
pub use Rattle.lvm_crash.proofs.WritingLemmas.{pp_same}
