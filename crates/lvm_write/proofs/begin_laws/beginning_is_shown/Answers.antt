use Rattle.lvm_write.proofs.ShownLemmas.Shown.{new_is_shown, again_is_shown}
use Rattle.lvm_write.proofs.begin_laws.beginning_is_shown.Goals as goal

pub returns : goal.returns
returns c = record { new = new_is_shown; again = again_is_shown }
