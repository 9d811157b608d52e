use Rattle.lvm_moves.proofs.ReadyLemmas.Ready.{first_start_has_flight}
use Rattle.lvm_moves.proofs.laws.first_start_has_flight.Goals as goal

pub returns : goal.returns
returns c = first_start_has_flight
