use Rattle.std.proofs.Common.{◌∙◌}
use Rattle.lvm_calls.proofs.AimedLemmas.{aimed_same}
use Rattle.lvm_calls.proofs.copy.is_aimed_at.Goals as goal

pub returns : goal.returns
returns c = c.any_aims_at.ensures ∙ aimed_same c.args.session.now.requests.items c.args.pp
