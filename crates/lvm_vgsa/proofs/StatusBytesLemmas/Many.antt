-- Values that are read one after the other, each of them after the earlier ones.
use Rattle.std.proofs.Common.{◌≡◌, ℕ, zero, suc, ◌&&◌, List, [], ◌∷◌, ◌++◌, Result, Ok, Err, refl}
use Rattle.std.specs.Prelude.{◌==◌, false, nat_le, nat_lt, length}
use Rattle.std.specs.List.{list_all}
use Rattle.std.specs.Int.{w16}
use Rattle.lvm_num.specs.declared.status.StatusRow.{StatusRow}
use Rattle.lvm_num.specs.Reading.{◌>>=◌, Rest, number_at, end_at}
use Rattle.lvm_num.specs.StatusBytes.{status_row_at, status_rows_at, numbers_at}
use Rattle.lvm_fields.proofs.ReadingLemmas.{Repeats}

-- how one of them is read, after the earlier ones
abbrev pub Reader : Type 0 → Type 0
Reader X = List X → Rest → Result (X × Rest) ℕ

unfoldable pub many : {X : Type 0} → Reader X → ℕ → List X → Rest → Result (List X × Rest) ℕ
many one zero earlier rest = Ok (earlier, rest)
many one (suc n) earlier rest = one earlier rest >>= λ x. many one n (earlier ++ x.0 ∷ []) x.1

-- ---- rows and numbers

pub many_rows : (n : ℕ) (earlier : List StatusRow) (rest : Rest) → status_rows_at n earlier rest ≡ many status_row_at n earlier rest
unfolding many status_rows_at
many_rows zero earlier rest = refl
many_rows (suc n) earlier rest = λ t. status_row_at earlier rest >>= λ row. many_rows n (earlier ++ row.0 ∷ []) row.1 t

-- one dirty volume
abbrev pub volume_at : List ℕ → Rest → Result (ℕ × Rest) ℕ
volume_at earlier rest = number_at w16 (λ n. nat_le 1 n && nat_le n 511 && list_all (λ m. nat_lt m n) earlier) rest

pub rows_repeat : Repeats StatusRow status_row_at status_rows_at
unfolding status_rows_at
rows_repeat = record { none = λ items rest. refl; next = λ n items rest. refl }

pub numbers_repeat : Repeats ℕ volume_at numbers_at
unfolding numbers_at
numbers_repeat = record { none = λ items rest. refl; next = λ n items rest. refl }

pub many_numbers : (n : ℕ) (earlier : List ℕ) (rest : Rest) → numbers_at n earlier rest ≡ many volume_at n earlier rest
unfolding many numbers_at
many_numbers zero earlier rest = refl
many_numbers (suc n) earlier rest = λ t. volume_at earlier rest >>= λ number. many_numbers n (earlier ++ number.0 ∷ []) number.1 t

-- ---- the end

pub more_follow : {X : Type 0} (x : X) (place : ℕ) (bytes : List ℕ) → (length bytes == 0) ≡ false → end_at x (place, bytes) ≡ Err place
more_follow x place [] none = absurd cc
more_follow x place (b ∷ bytes) none = refl
