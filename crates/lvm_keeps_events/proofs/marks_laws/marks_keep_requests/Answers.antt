use Rattle.lvm_keeps_events.proofs.MarksLemmas.{marks_keep_requests}
use Rattle.lvm_keeps_events.proofs.marks_laws.marks_keep_requests.Goals as goal

pub returns : goal.returns
returns c = marks_keep_requests
