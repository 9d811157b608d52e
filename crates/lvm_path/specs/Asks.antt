-- What a request asks for.
use Rattle.std.specs.Prelude.{ℕ, Bool, true, false}
use Rattle.lvm_path.specs.declared.ask.Ask.{Ask}
use Rattle.lvm_path.specs.declared.ask.Ask.TheVariants.{Read, Write}

-- the number of the volume
abbrev pub lv_of : Ask → ℕ
lv_of (Read lv at count) = lv
lv_of (Write lv at count) = lv

-- the first block, counted in the volume
abbrev pub at_of : Ask → ℕ
at_of (Read lv at count) = at
at_of (Write lv at count) = at

-- how many blocks
abbrev pub count_of : Ask → ℕ
count_of (Read lv at count) = count
count_of (Write lv at count) = count

-- they are written
abbrev pub is_write : Ask → Bool
is_write (Read lv at count) = false
is_write (Write lv at count) = true
