use Rattle.lvm_steps.proofs.WritableLemmas.{writable_stays, notes_are_outside, records_are_outside}
use Rattle.lvm_steps.proofs.laws.records_stay_writable.Goals as goal

pub returns : goal.returns
returns g c = record { stays = writable_stays _; notes = notes_are_outside; records = records_are_outside }
