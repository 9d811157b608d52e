use Rattle.lvm_steps.proofs.LawsLemmas.Shelves.{unwritten_stays_before, no_more_stays_before, data_stays_before, transfer_stays_before, earlier_stands_before, untouched_stays_behind, earlier_stays_behind}
use Rattle.lvm_steps.proofs.stamps.shelves_stay_behind.Goals as goal

pub returns : goal.returns
returns c = record { unwritten = unwritten_stays_before; no_more = no_more_stays_before; blocks = data_stays_before; transfer = transfer_stays_before; stamps = earlier_stands_before; untouched = untouched_stays_behind; moments = earlier_stays_behind }
