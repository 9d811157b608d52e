use Rattle.lvm_vol.proofs.LawsLemmas.Legality.{legal_prefix, legal_push, legal_through}
use Rattle.lvm_vol.proofs.laws.legal_step_by_step.Goals as goal

pub returns : goal.returns
returns c = record { prefix = legal_prefix; push = legal_push; through = legal_through }
