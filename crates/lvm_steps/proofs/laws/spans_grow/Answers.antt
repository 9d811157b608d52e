use Rattle.lvm_steps.proofs.MomentsLemmas.Spans.{steps_go_on, fewer_stay_kept, entry_goes_on, group_goes_on, disks_go_out, spans_join, span_upholds}
use Rattle.lvm_steps.proofs.laws.spans_grow.Goals as goal

pub returns : goal.returns
returns c = record { steps = steps_go_on; fewer = fewer_stay_kept; entry = entry_goes_on; on = group_goes_on; out = disks_go_out; joined = spans_join; upheld = span_upholds }
