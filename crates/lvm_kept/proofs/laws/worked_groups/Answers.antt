use Rattle.lvm_kept.proofs.ExamplesLemmas.{three, away, stale, named, half_made}
use Rattle.lvm_kept.proofs.laws.worked_groups.Goals as goal

pub returns : goal.returns
returns c = record { three = three; away = away; stale = stale; named = named; half_made = half_made }
