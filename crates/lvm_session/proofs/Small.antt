-- What is never so.
use Rattle.std.proofs.Common.{◌≡◌, Some, None, arith}
use Rattle.lvm_kept.specs.passed.Disk.{Rose}

-- a count that stands at 0 hasn't risen
pub not_risen : {X : Type 0} → Rose 0 0 → X
not_risen rose = let risen = rose.risen in absurd (omega (arith, risen))

pub not_none : {A : Type 0} {X : Type 0} {a : A} → None ≡ Some a → X
not_none e = absurd cc
