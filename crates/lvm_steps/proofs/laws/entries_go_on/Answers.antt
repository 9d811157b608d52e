use Rattle.lvm_steps.proofs.EnteringLemmas.{quiet_goes_on, calm_goes_on, answered_stays_calm, darkened_stays_calm}
use Rattle.lvm_steps.proofs.laws.entries_go_on.Goals as goal

pub returns : goal.returns
returns c = record { quiet = quiet_goes_on; calm = calm_goes_on; answered = answered_stays_calm; darkened = darkened_stays_calm }
