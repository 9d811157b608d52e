use Rattle.lvm_steps.proofs.RequestsLemmas.Writing.{still_shows_none, stays_in_no_group}
use Rattle.lvm_steps.proofs.MomentsLemmas.Zeros.{blank_is_in_no_group}
use Rattle.lvm_steps.proofs.laws.disks_stay_in_no_group.Goals as goal

pub returns : goal.returns
returns c = record { still = still_shows_none; blank = blank_is_in_no_group; stays = stays_in_no_group }
