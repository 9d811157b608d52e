use Rattle.lvm_settled.proofs.SettledLemmas.{cache_is_seen}
use Rattle.lvm_settled.proofs.laws.cache_is_seen.Goals as goal

pub returns : goal.returns
returns c = cache_is_seen
