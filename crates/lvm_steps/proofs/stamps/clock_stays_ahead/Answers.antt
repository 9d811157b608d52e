use Rattle.lvm_steps.proofs.LawsLemmas.Clock.{later_stays_ahead, risen_is_ahead, all_is_behind_next}
use Rattle.lvm_steps.proofs.stamps.clock_stays_ahead.Goals as goal

pub returns : goal.returns
returns c = record { later = later_stays_ahead; risen = risen_is_ahead; next = all_is_behind_next }
