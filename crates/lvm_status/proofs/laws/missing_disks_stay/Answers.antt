use Rattle.lvm_status.proofs.RunsLemmas.Sessions.{missing_stays, missing_is_not_written}
use Rattle.lvm_status.proofs.laws.missing_disks_stay.Goals as goal

pub returns : goal.returns
returns c = record { stays = missing_stays; unwritten = missing_is_not_written }
