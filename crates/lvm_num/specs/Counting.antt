-- Counts of 64 bits that never fall.
use Rattle.std.specs.Prelude.{◌+◌, ◌-◌, ◌^◌, ◌≤◌, ℕ, min}

-- a count rose by n, or stands at its last value
pub record RoseBy (n before now : ℕ) : Type 0 where
  pub later : before ≤ now
  pub risen : min (before + n) (2 ^ 64 - 1) ≤ now

-- a count rose, or stands at its last value
abbrev pub Rose : ℕ → ℕ → Type 0
Rose before now = RoseBy 1 before now

-- one more, but for the last value of 64 bits, which stands
abbrev pub next_count : ℕ → ℕ
next_count n = min (n + 1) (2 ^ 64 - 1)
