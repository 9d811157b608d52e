use Rattle.lvm_vgsa.proofs.StatusBytesLemmas.RoundTrip.{is_read, is_read_again}
use Rattle.lvm_vgsa.proofs.laws.written_is_read.Goals as goal

pub returns-clause-again : goal.returns-clause-again
returns-clause-again c = is_read_again

pub returns-clause-only : goal.returns-clause-only
returns-clause-only c = λ bytes s fits e. is_read bytes s fits e
