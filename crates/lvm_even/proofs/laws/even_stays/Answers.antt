use Rattle.lvm_even.proofs.CommandsLemmas.{even_stays, free_keeps_even}
use Rattle.lvm_even.proofs.laws.even_stays.Goals as goal

pub returns : goal.returns
returns c = record { volumes = even_stays; free = free_keeps_even }
