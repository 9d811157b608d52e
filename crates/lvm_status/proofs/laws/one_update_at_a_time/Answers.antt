use Rattle.lvm_status.proofs.RunsLemmas.Sessions.{in_flight_stays}
use Rattle.lvm_status.proofs.laws.one_update_at_a_time.Goals as goal

pub returns : goal.returns
returns c = in_flight_stays
