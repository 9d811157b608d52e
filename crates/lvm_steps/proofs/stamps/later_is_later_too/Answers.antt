use Rattle.lvm_steps.proofs.LawsLemmas.Clock.{later_is_later_too, later_joins, on_is_earlier, removed_stays_later, joined_is_later}
use Rattle.lvm_steps.proofs.stamps.later_is_later_too.Goals as goal

pub returns : goal.returns
returns c = record { moments = later_is_later_too; joined = later_joins; on = on_is_earlier; removed = removed_stays_later; runs = joined_is_later }
