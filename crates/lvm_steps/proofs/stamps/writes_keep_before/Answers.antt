use Rattle.lvm_steps.proofs.LawsLemmas.Writes.{data_keeps_before, notes_and_data_are_outside, earlier_keep_before, record_keeps_before, record_is_before_next}
use Rattle.lvm_steps.proofs.stamps.writes_keep_before.Goals as goal

pub returns : goal.returns
returns c = record { blocks = data_keeps_before; outside = notes_and_data_are_outside; earlier = earlier_keep_before; one = record_keeps_before; next = record_is_before_next }
