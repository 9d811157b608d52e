-- A turn, as contracts see it.
use Rattle.std.specs.Prelude.{ℕ}
use Rattle.atomic_table.specs.Seated.{TableId}

-- which turn it is, and the number of clients that it was opened for
pub record Opened : Type 0 where
  pub table : TableId
  pub clients : ℕ
