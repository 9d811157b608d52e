use Rattle.lvm_steps.proofs.MakingLemmas.Making.{notes_go_on, status_goes_on, descriptor_goes_on, group_is_made}
use Rattle.lvm_steps.proofs.laws.group_is_made.Goals as goal

pub returns : goal.returns
returns c = record { notes = notes_go_on; status = status_goes_on; descriptor = descriptor_goes_on; whole = group_is_made }
