-- How a landing is entered.
use Rattle.std.specs.Prelude.{◌≡◌, ◌≤◌, ℕ, Bool, true, false, List, Option, Some, None, length}
use Rattle.lvm_num.specs.Buffer.{Buffer}
use Rattle.lvm_vol.specs.declared.entry.Outcome.{Outcome}
use Rattle.lvm_vol.specs.declared.entry.Outcome.TheVariants as outcome
use Rattle.lvm_vol.specs.Facts.{Fact}
use Rattle.lvm_vol.specs.Log.{awaited, is_got}

-- A read that has its blocks lands as Got with as many as the history awaits, and anything else otherwise.
abbrev pub IsEntered : List Fact → ℕ → ℕ → Outcome → Bool → Option Buffer → Type 0
IsEntered facts id count how started None = is_got how ≡ false
IsEntered facts id count how started (Some buf) = (how ≡ outcome.Got) × (started ≡ true) × (count ≤ 256) × (256 ≤ length buf.sectors) × (awaited facts id ≡ Some count)
