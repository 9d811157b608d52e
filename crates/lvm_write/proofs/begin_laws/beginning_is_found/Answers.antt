use Rattle.lvm_write.proofs.NewestLemmas.{all_find_newest, new_is_found, again_is_found, status_is_last}
use Rattle.lvm_write.proofs.begin_laws.beginning_is_found.Goals as goal

pub returns : goal.returns
returns c = record { new = new_is_found; again = again_is_found; all = all_find_newest; last = status_is_last }
