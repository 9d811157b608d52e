-- Bytes that are put over others.
use Rattle.std.specs.Prelude.{◌≡◌, ℕ, ◌+◌, List, ◌++◌, length, take, drop}

-- the bytes stand at this place, and the others are as they were
abbrev pub Puts : List ℕ → List ℕ → ℕ → List ℕ → Type 0
Puts old new at bytes = new ≡ take at old ++ bytes ++ drop (at + length bytes) old
