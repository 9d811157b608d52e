use Rattle.lvm_handover.proofs.ServingLemmas.Serving.{commands_serve}
use Rattle.lvm_handover.proofs.laws.commands_serve.Goals as goal

pub returns : goal.returns
returns c = commands_serve
