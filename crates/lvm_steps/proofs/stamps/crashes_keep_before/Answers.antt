use Rattle.lvm_steps.proofs.LawsLemmas.Shelves.{crash_keeps_before, still_keeps_before, under_way_keeps_before, left_is_before}
use Rattle.lvm_steps.proofs.stamps.crashes_keep_before.Goals as goal

pub returns : goal.returns
returns c = record { flights = crash_keeps_before; still = still_keeps_before; under_way = under_way_keeps_before; left = left_is_before }
