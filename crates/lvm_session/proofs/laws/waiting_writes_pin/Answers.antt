use Rattle.lvm_session.proofs.WorkedLemmas.Waiting.{waiting_writes_pin}
use Rattle.lvm_session.proofs.laws.waiting_writes_pin.Goals as goal

pub returns : goal.returns
returns c = waiting_writes_pin
