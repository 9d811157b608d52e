use Rattle.lvm_invariant.proofs.WrongLemmas.{left_fresh, none_fresh, names_are_needed}
use Rattle.lvm_invariant.proofs.laws.fresh_copies_and_names_are_needed.Goals as goal

pub returns : goal.returns
returns c = record { left = left_fresh; none = none_fresh; names = names_are_needed }
