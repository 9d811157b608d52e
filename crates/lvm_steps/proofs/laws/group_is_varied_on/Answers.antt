use Rattle.lvm_steps.proofs.VaryingOnLemmas.Following.{restamp_is_newest, newest_stays_newest, descriptor_varies_on, status_varies_on, notes_vary_on, group_is_varied_on}
use Rattle.lvm_steps.proofs.laws.group_is_varied_on.Goals as goal

pub returns : goal.returns
returns c = record { restamped = restamp_is_newest; stays = newest_stays_newest; descriptor = descriptor_varies_on; status = status_varies_on; notes = notes_vary_on; whole = group_is_varied_on }
