use Rattle.lvm_kept.proofs.TornLemmas.Standing.{ended_stands, standing_stays}
use Rattle.lvm_kept.proofs.laws.parts_stand.Goals as goal

pub returns : goal.returns
returns c = record { ended = ended_stands; stays = standing_stays }
