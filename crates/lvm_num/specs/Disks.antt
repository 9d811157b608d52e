-- Sets of disks.
use Rattle.std.specs.Prelude.{◌≡◌, ◌<◌, ℕ, Bool, true, false, ◌==◌, Option, Some, None}
use Rattle.std.specs.Int.{bit_at}

-- a set of disks, by its test
abbrev pub Disks : Type 0
Disks = ℕ → Bool

-- whether a disk is in the set that a number's bits are
unfoldable pub has : ℕ → Disks
has set disk = bit_at set disk == 1

-- the lowest disk of a set, if it has any
abbrev pub IsLowest : Disks → Option ℕ → Type 0
IsLowest set None = (disk : ℕ) → set disk ≡ false
IsLowest set (Some disk) = (set disk ≡ true) × ((other : ℕ) → other < disk → set other ≡ false)
