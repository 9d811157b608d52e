use Rattle.lvm_kept.proofs.TornLemmas.Records.{newest_is, newest_stays, whole_is_new}
use Rattle.lvm_kept.proofs.laws.record_writes.Goals as goal

pub returns : goal.returns
returns g c = record { newest = newest_is _; stays = newest_stays _; whole = whole_is_new _ }
