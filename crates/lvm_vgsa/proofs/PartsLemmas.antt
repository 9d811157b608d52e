-- What is read part by part is what is read field by field.
use Rattle.std.proofs.Common.{◌≡◌, ℕ, ◌&&◌, List, Result, Ok, Err, refl}
use Rattle.std.specs.Prelude.{◌==◌, not, nat_lt}
use Rattle.std.specs.List.{list_all}
use Rattle.std.specs.Int.{w8, w16, w64}
use Rattle.lvm_num.specs.declared.status.StatusRow.{StatusRow}
use Rattle.lvm_num.specs.DescriptorBytes.{is_flag}
use Rattle.lvm_num.specs.Reading.{◌>>=◌, Rest, number_at, zeros_at}
use Rattle.lvm_num.specs.StatusBytes.{status_version_at, rows_and_size_at, status_row_at, status_of}
use Rattle.lvm_vgsa.specs.Parts.{head_at, status_by_parts, disk_and_missing_at, row_by_parts}

-- three steps in one part
three_in_one : {A B C D E : Type 0} (m : Result A ℕ) (f : A → Result B ℕ) (k : A → B → Result C ℕ) (h : A → B → C → D) (g : D → Result E ℕ)
    → ((m >>= λ a. f a >>= λ b. k a b >>= λ c. Ok (h a b c)) >>= g) ≡ (m >>= λ a. f a >>= λ b. k a b >>= λ c. g (h a b c))
three_in_one (Err e) f k h g = refl
three_in_one (Ok a) f k h g = second (f a)
  where
    third : (b : _) (n : _) → ((n >>= λ c. Ok (h a b c)) >>= g) ≡ (n >>= λ c. g (h a b c))
    third b (Err e) = refl
    third b (Ok c) = refl

    second : (n : _) → ((n >>= λ b. k a b >>= λ c. Ok (h a b c)) >>= g) ≡ (n >>= λ b. k a b >>= λ c. g (h a b c))
    second (Err e) = refl
    second (Ok b) = third b (k a b)

pub row_is : (earlier : List StatusRow) (rest : Rest) → row_by_parts earlier rest ≡ status_row_at earlier rest
unfolding row_by_parts disk_and_missing_at status_row_at
row_is earlier rest =
    three_in_one (number_at w16 (λ n. nat_lt n 128 && list_all (λ (row : StatusRow). nat_lt row.disk n) earlier) rest) (λ disk. number_at w8 is_flag disk.1) (λ disk missing. zeros_at 1 missing.1) (λ disk missing gap. ((disk.0, missing.0 == 1), gap)) _

pub status_is : (bytes : List ℕ) → status_by_parts bytes ≡ status_of bytes
unfolding status_by_parts head_at status_of
status_is bytes =
    three_in_one (status_version_at (0, bytes)) (λ version. number_at w64 (λ n. not (n == 0)) version.1) (λ version id. rows_and_size_at version.0 id.1) (λ version id size. ((version.0, id.0, size.0.0, size.0.1), size.1)) _
