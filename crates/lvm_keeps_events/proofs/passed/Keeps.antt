-- Passed on from `lvm_keeps`.
pub use Rattle.lvm_keeps.proofs.DarkLemmas.Ending.{back_long, hands_long}
pub use Rattle.lvm_keeps.proofs.EnabledLemmas.{pins_entry}
pub use Rattle.lvm_keeps.proofs.KeepsLemmas.Landing.{landing_is_caused, witness}
pub use Rattle.lvm_keeps.proofs.KeepsLemmas.Losing.{loss_is_caused}
pub use Rattle.lvm_keeps.proofs.KeepsLemmas.Noting.{first_start_is_noted}
pub use Rattle.lvm_keeps.proofs.Lists.{all_mapped, all_removed, all_set, set_here}
pub use Rattle.lvm_keeps.proofs.Small.{both, is_false}
