use Rattle.lvm_crash.proofs.LastingLemmas.Lasting.{description_lasts}
use Rattle.lvm_crash.proofs.LastingLemmas.Statuses.{statuses_last}
use Rattle.lvm_crash.proofs.laws.description_lasts.Goals as goal

pub returns : goal.returns
returns c = record { events = description_lasts; statuses = statuses_last }
