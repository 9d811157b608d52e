use Rattle.lvm_rec.proofs.SlotsLemmas.SlotLaws.{slot_holds_one, frames_are_read}
use Rattle.lvm_rec.proofs.laws.frames_are_read.Goals as goal

pub returns : goal.returns
returns c = record { one = slot_holds_one; read = frames_are_read }
