-- Which buffers of a pool are out: for each number, from 0, whether it is.
use Rattle.std.specs.Prelude.{◌≡◌, ◌<◌, ℕ, List, Bool, true, false, Some, All, slice_get, slice_set}

-- the buffer of this number is out
abbrev pub IsOut : List Bool → ℕ → Type 0
IsOut pool number = slice_get pool number ≡ Some true

-- the lowest number that wasn't out is out now, and nothing else has changed
pub record TakesLowest (old new : List Bool) (number : ℕ) : Type 0 where
  pub free : slice_get old number ≡ Some false
  pub lowest : (n : ℕ) → n < number → IsOut old n
  pub new_is : new ≡ slice_set old number true

-- every number is out
abbrev pub AreAllOut : List Bool → Type 0
AreAllOut pool = All (λ out. out ≡ true) pool
