use Rattle.lvm_kept.proofs.ChangesLemmas.Entries.{entry_keeps, more_is_kept, beginning_more, beginning_stands}
use Rattle.lvm_kept.proofs.laws.entries_keep.Goals as goal

pub returns : goal.returns
returns c = record { entry = entry_keeps; more = more_is_kept; beginning = beginning_more; stands = beginning_stands }
