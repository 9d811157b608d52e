-- Passed on from `lvm_handover`.
pub use Rattle.lvm_handover.proofs.BeginningLemmas.{made_begins, varied_on_begins}
pub use Rattle.lvm_handover.proofs.EarlierLemmas.Resting.{open_with, resting_with}
pub use Rattle.lvm_handover.proofs.EarlierLemmas.Running.{stays_beside}
pub use Rattle.lvm_handover.proofs.ServingLemmas.Volumes.{copies_at, found, had_fresh, its_row, may_serve, mklv_serves, refused_serves, rmlv_serves}
pub use Rattle.lvm_handover.proofs.SoundLemmas.{none_flown}
