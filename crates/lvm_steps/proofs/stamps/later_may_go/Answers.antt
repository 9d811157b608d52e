use Rattle.lvm_steps.proofs.LawsLemmas.Records.{shown_is_before, later_may_go, session_may_go}
use Rattle.lvm_steps.proofs.stamps.later_may_go.Goals as goal

pub returns : goal.returns
returns c = record { shown = shown_is_before; go = later_may_go; session = session_may_go }
