use Rattle.lvm_keeps_events.proofs.MarksLemmas.{copy_ends_keep_requests}
use Rattle.lvm_keeps_events.proofs.marks_laws.copy_ends_keep_requests.Goals as goal

pub returns : goal.returns
returns c = copy_ends_keep_requests
