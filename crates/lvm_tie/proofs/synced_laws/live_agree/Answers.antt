use Rattle.lvm_tie.proofs.AgreeingLemmas.{live_agree as its}
use Rattle.lvm_tie.proofs.synced_laws.live_agree.Goals as goal

pub returns : goal.returns
returns c = its
