use Rattle.lvm_invariant.proofs.EventsLemmas.Each.{take_keeps, take_earlier_keeps}
use Rattle.lvm_invariant.proofs.laws.answer_is_taken.Goals as goal

pub returns : goal.returns
returns c = record { own = take_keeps; earlier = take_earlier_keeps }
