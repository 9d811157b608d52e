-- Numbers that no refusal has.
use Rattle.std.proofs.Common.{◌≡◌, ℕ, ◌-◌, ◌≤◌, [], Bool, true, false, if◌then◌else◌, Option, None, length, refl, sym, ap, arith}
use Rattle.std.specs.Prelude.{slice_get, ◌==◌}
use Rattle.std.proofs.lemmas.Option.{slice_get_past}
use Rattle.lvm_show.specs.Refusals.{Row, rows, name_in, name_of}

size : length rows ≡ 36
size = refl

none : (number : ℕ) → 37 ≤ number → slice_get rows (number - 1) ≡ None
none number large = slice_get_past rows (number - 1) (omega (arith, size))

nameless : (b : Bool) (found : Option Row) → found ≡ None → [] ≡ name_in (if b then None else found)
nameless true found is = refl
nameless false found is = ap name_in (sym is)

pub past : (number : ℕ) → 37 ≤ number → [] ≡ name_of number
past number large = nameless (number == 0) (slice_get rows (number - 1)) (none number large)
