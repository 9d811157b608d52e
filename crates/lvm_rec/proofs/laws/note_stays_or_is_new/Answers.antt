use Rattle.lvm_rec.proofs.SlotsLemmas.SlotLaws.{note_stays_or_is_new}
use Rattle.lvm_rec.proofs.laws.note_stays_or_is_new.Goals as goal

pub returns : goal.returns
returns c = note_stays_or_is_new
