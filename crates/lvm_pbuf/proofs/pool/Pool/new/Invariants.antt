use Rattle.lvm_pbuf.proofs.PlacesLemmas.{IsFresh}
use Rattle.lvm_pbuf.proofs.pool.Pool.new.Given as goal

abbrev pub invariant-loop-number : goal.invariant-loop-number
invariant-loop-number l = IsFresh l.places.items l.number
