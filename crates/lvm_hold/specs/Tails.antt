-- The items of a tail.
use Rattle.std.specs.Prelude.{ℕ, List}

-- how many there is room for, and those that are there
pub record Items (T : Type 0) : Type 0 where
  pub room : ℕ
  pub items : List T
