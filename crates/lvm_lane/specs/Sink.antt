-- A sink that makes image files.
use Rattle.std.specs.Prelude.{ℕ, Bool, Option}

-- the disk that was chosen, how often one was, how often a write failed, and whether the choice told that no image was made of that disk, since it has one
pub record SinkState : Type 0 where
  pub chosen : Option ℕ
  pub choices : ℕ
  pub faults : ℕ
  pub taken : Bool
