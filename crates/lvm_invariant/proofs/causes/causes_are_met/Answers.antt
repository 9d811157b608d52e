use Rattle.lvm_invariant.proofs.WorkedCausesLemmas.{loss_is_caused, failed_read_is_caused, faults_are_needed}
use Rattle.lvm_invariant.proofs.causes.causes_are_met.Goals as goal

pub returns : goal.returns
returns c = record { loss = loss_is_caused; read = failed_read_is_caused; needed = faults_are_needed }
