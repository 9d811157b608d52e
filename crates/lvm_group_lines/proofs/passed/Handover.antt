-- Passed on from `lvm_handover`.
pub use Rattle.lvm_tie_commands.proofs.passed.Handover.{open_with, resting_with, stays_beside, made_begins, mklv_serves, none_flown, rmlv_serves, varied_on_begins}
