-- How long the parts of a status are.
use Rattle.std.proofs.Common.{◌≡◌, ℕ, ◌+◌, ◌*◌, ◌<◌, ◌≤◌, false, List, [], ◌∷◌, ◌++◌, length, take, refl, ap, ◌∙◌, arith, length-append}
use Rattle.std.specs.Prelude.{◌==◌, flat_map, All}
use Rattle.std.specs.Int.{w16, to_be_bytes}
use Rattle.std.proofs.lemmas.Bool.Decides.{nat_tests}
use Rattle.std.proofs.lemmas.List.{length-take-le}
use Rattle.std.proofs.lemmas.List.Elements.{All-head, All-tail, All-take}
use Rattle.lvm_num.specs.declared.status.StatusRow.{StatusRow}
use Rattle.lvm_num.specs.declared.status.Status.{Status}
use Rattle.lvm_num.specs.Status.{IsStatusRow, IsValidStatus}
use Rattle.lvm_num.specs.StatusBytes.{status_row_bytes, dirty_bytes, status_bytes}
use Rattle.lvm_num.proofs.DescriptorLemmas.Bounds.{few_members}

row_size : (row : StatusRow) → length row.stale ≡ 127 → length (status_row_bytes row) ≡ 132
row_size row size = omega (arith, length-append row.stale (0 ∷ []), size)

pub length-rows : (rows : List StatusRow) → All IsStatusRow rows → length (flat_map status_row_bytes rows) ≡ 132 * length rows
length-rows [] all = refl
length-rows (row ∷ rows) all =
    omega (arith, length-append (status_row_bytes row) (flat_map status_row_bytes rows), row_size row (All-head IsStatusRow row rows all).size, length-rows rows (All-tail IsStatusRow row rows all))

pub length-numbers : (numbers : List ℕ) → length (flat_map (to_be_bytes w16) numbers) ≡ 2 * length numbers
length-numbers [] = refl
length-numbers (n ∷ numbers) = omega (arith, length-append (to_be_bytes w16 n) (flat_map (to_be_bytes w16) numbers), length-numbers numbers)

pub dirty_none : (numbers : List ℕ) → length numbers ≡ 0 → dirty_bytes numbers ≡ []
dirty_none [] none = refl
dirty_none (n ∷ numbers) none = absurd (omega (arith, none))

pub dirty_some : (numbers : List ℕ) → 0 < length numbers → dirty_bytes numbers ≡ to_be_bytes w16 (length numbers) ++ flat_map (to_be_bytes w16) numbers
dirty_some [] some = absurd (omega (arith, some))
dirty_some (n ∷ numbers) some = refl

pub length-dirty : (numbers : List ℕ) → 0 < length numbers → length (dirty_bytes numbers) ≡ 2 + 2 * length numbers
length-dirty numbers some =
    ap length (dirty_some numbers some) ∙ omega (arith, length-append (to_be_bytes w16 (length numbers)) (flat_map (to_be_bytes w16) numbers), length-numbers numbers)

pub length-status : (s : Status) → IsValidStatus s → length (status_bytes s) ≡ 16 + 132 * length s.rows + length (dirty_bytes s.dirty)
length-status s valid =
    omega (arith, length-append (flat_map status_row_bytes s.rows) (dirty_bytes s.dirty), length-rows s.rows valid.rows.each)

pub size-numbers : (numbers : List ℕ) (k : ℕ) → k ≤ length numbers → length (flat_map (to_be_bytes w16) (take k numbers)) ≡ 2 * k
size-numbers numbers k le = omega (arith, length-numbers (take k numbers), length-take-le k numbers le)

pub size-rows : (rows : List StatusRow) (k : ℕ) → k ≤ length rows → All IsStatusRow rows → length (flat_map status_row_bytes (take k rows)) ≡ 132 * k
size-rows rows k le all = omega (arith, length-rows (take k rows) (All-take IsStatusRow k rows all), length-take-le k rows le)

pub not_empty : (n : ℕ) → (n == 0) ≡ false → 0 < n
not_empty n some = grind (arith, nat_tests)

pub dirty_small : (numbers : List ℕ) → length numbers ≤ 511 → length (dirty_bytes numbers) ≤ 1024
dirty_small [] few = omega arith
dirty_small (n ∷ numbers) few = omega (arith, length-dirty (n ∷ numbers) (omega arith), few)

pub few_rows : (s : Status) → IsValidStatus s → length s.rows ≤ 128
few_rows s valid = omega (arith, valid.rows_fit, few_members s.big)
