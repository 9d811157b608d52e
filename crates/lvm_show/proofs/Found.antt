-- What is found is there.
use Rattle.std.proofs.Common.{◌≡◌, Bool, List, Some}
use Rattle.std.specs.Prelude.{Contains}
use Rattle.std.specs.List.{find}
use Rattle.lvm_num.proofs.MarksLemmas.Maps.{find-Some}

pub found_is_there : {X : Type 0} (p : X → Bool) (xs : List X) (x : X) → find p xs ≡ Some x → Contains xs x
found_is_there p xs x is = let found = find-Some p xs x is in (found.1.0, found.1.1, found.1.2 x)
