use Rattle.lvm_map.proofs.FirstFitLemmas.Validity.{new_is_valid, more_are_valid, copies_stay}
use Rattle.lvm_map.proofs.laws.allocations_are_valid.Goals as goal

pub returns-clause-new : goal.returns-clause-new
returns-clause-new c = λ d usable row k valid le all volumes room. new_is_valid d usable row k valid le all volumes room

pub returns-clause-more : goal.returns-clause-more
returns-clause-more c = λ d usable row k copies pps valid is more most all. more_are_valid d usable row k copies pps valid is more most all

pub returns-clause-stay : goal.returns-clause-stay
returns-clause-stay c = λ d usable row copies pps lp size more all lt. copies_stay d usable row copies pps lp size more all lt
