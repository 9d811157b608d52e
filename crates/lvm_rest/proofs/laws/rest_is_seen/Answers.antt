use Rattle.lvm_rest.proofs.GoodLemmas.Seen.{rest_is_seen}
use Rattle.lvm_rest.proofs.laws.rest_is_seen.Goals as goal

pub returns : goal.returns
returns c = rest_is_seen
