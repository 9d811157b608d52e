use Rattle.lvm_rec.proofs.SlotsLemmas.SlotLaws.{newest_stays_or_is_new, whole_is_newest, keeps_others}
use Rattle.lvm_rec.proofs.laws.newest_stays_or_is_new.Goals as goal

pub returns : goal.returns
returns g c = record { torn = newest_stays_or_is_new _; whole = whole_is_newest _; others = keeps_others _ }
