use Rattle.lvm_mwc.proofs.EntriesLemmas.Pins.{entries_after_all}
use Rattle.lvm_mwc.proofs.laws.entries_differ.Goals as goal

pub returns-clause-differ : goal.returns-clause-differ
returns-clause-differ c = entries_after_all
