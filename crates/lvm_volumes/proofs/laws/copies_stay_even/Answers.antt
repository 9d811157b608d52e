use Rattle.lvm_volumes.proofs.LawsLemmas.{more_are_even, first_are_even}
use Rattle.lvm_volumes.proofs.laws.copies_stay_even.Goals as goal

pub returns : goal.returns
returns c = record { more = more_are_even; fewer = first_are_even }
