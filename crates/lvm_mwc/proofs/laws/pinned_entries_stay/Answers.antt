use Rattle.lvm_mwc.proofs.EntriesLemmas.Pins.{pins_after_all, stays}
use Rattle.lvm_mwc.proofs.laws.pinned_entries_stay.Goals as goal

pub returns-clause-counted : goal.returns-clause-counted
returns-clause-counted c = pins_after_all

pub returns-clause-stays : goal.returns-clause-stays
returns-clause-stays c = stays
