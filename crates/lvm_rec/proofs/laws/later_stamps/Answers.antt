use Rattle.lvm_rec.proofs.SlotsLemmas.SlotLaws.{may_write, keeps_before}
use Rattle.lvm_rec.proofs.laws.later_stamps.Goals as goal

pub returns : goal.returns
returns g c = record { may = may_write _; kept = keeps_before }
