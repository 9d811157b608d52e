use Rattle.lvm_handover.proofs.ServingLemmas.Serving.{other_members_serve}
use Rattle.lvm_handover.proofs.laws.other_members_serve.Goals as goal

pub returns : goal.returns
returns c = other_members_serve
