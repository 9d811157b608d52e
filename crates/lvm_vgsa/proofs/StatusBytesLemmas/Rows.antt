-- Rows and dirty volumes that are read are those that were written, and those that were written are read again.
use Rattle.std.proofs.Common.{◌≡◌, ℕ, zero, suc, ◌+◌, ◌^◌, ◌<◌, ◌≤◌, Bool, true, false, List, [], ◌∷◌, ◌++◌, length, Result, Ok, refl, sym, ap, subst, ◌∙◌, append-nil, append_assoc, arith}
use Rattle.std.specs.Prelude.{◌==◌, ◌&&◌, nat_le, nat_lt, flat_map}
use Rattle.std.specs.List.{list_all}
use Rattle.std.specs.Int.{w8, w16, to_be_bytes}
use Rattle.std.proofs.lemmas.Bool.{and_parts, and_from, ltb-true, lt-ltb}
use Rattle.std.proofs.lemmas.Bool.Decides.{nat_tests}
use Rattle.std.proofs.lemmas.List.{length-append}
use Rattle.std.proofs.lemmas.List.Concat.{flat_map-append}
use Rattle.lvm_num.specs.declared.status.StatusRow.{StatusRow}
use Rattle.lvm_num.specs.Status.{IsStatusRow, AreStatusRows, IsVolumeNumber, AreDirty}
use Rattle.lvm_num.specs.DescriptorBytes.{flag, is_flag}
use Rattle.lvm_num.specs.Reading.{◌>>=◌, Rest, bytes_at, number_at, zeros_at}
use Rattle.lvm_num.specs.StatusBytes.{status_row_bytes, status_row_at, status_rows_at, numbers_at}
use Rattle.lvm_fields.proofs.NumReadingLemmas.{IsBytes, bind_ok, ok_is, Takes, Takes-then, bytes_takes, bytes_again, wide8, wide16, number_takes, number_again, zeros_take, zeros_again}
use Rattle.lvm_vgsa.proofs.StatusBytesLemmas.Many.{Reader, many, many_rows, many_numbers, volume_at}
use Rattle.lvm_vgsa.proofs.Orders.{InOrder, order_push, order_front, order_last, order_behind}

-- ---- values one after the other

-- what a reader takes after the earlier values
abbrev TakesOne : (X : Type 0) → Reader X → (X → List ℕ) → (List X → Type 0) → Type 0
TakesOne X one spell Good = (earlier : List X) (rest : Rest) (x : X × Rest) → IsBytes rest.1 → Good earlier → one earlier rest ≡ Ok x → Takes rest (spell x.0) x.1 × Good (earlier ++ x.0 ∷ [])

-- what it reads again
abbrev ReadsAgain : (X : Type 0) → Reader X → (X → List ℕ) → (List X → Type 0) → Type 0
ReadsAgain X one spell Good = (earlier : List X) (x : X) (p : ℕ) (bytes : List ℕ) → Good (earlier ++ x ∷ []) → (q : ℕ) × (one earlier (p, spell x ++ bytes) ≡ Ok (x, (q, bytes)))

-- what was taken, with the spelling of the values so far in front
pub record TakesAll (X : Type 0) (spell : X → List ℕ) (Good : List X → Type 0) (n : ℕ) (earlier : List X) (rest : Rest) (x : List X × Rest) : Type 0 where
  pub parts : flat_map spell earlier ++ rest.1 ≡ flat_map spell x.0 ++ x.1.1
  pub count : length x.0 ≡ length earlier + n
  pub good : Good x.0
  pub fits : IsBytes x.1.1

many_take : (X : Type 0) (one : Reader X) (spell : X → List ℕ) (Good : List X → Type 0) → TakesOne X one spell Good → (n : ℕ) (earlier : List X) (rest : Rest) (x : List X × Rest)
    → IsBytes rest.1 → Good earlier → many one n earlier rest ≡ Ok x → TakesAll X spell Good n earlier rest x
unfolding many
many_take X one spell Good takes zero earlier rest x fits good e =
    let none : TakesAll X spell Good 0 earlier rest (earlier, rest) = record { parts = refl; count = omega arith; good = good; fits = fits } in
    subst (λ (y : List X × Rest). TakesAll X spell Good 0 earlier rest y) (ok_is (earlier, rest) x e) none
many_take X one spell Good takes (suc n) earlier rest x fits good e =
    let a = bind_ok (one earlier rest) (λ y. many one n (earlier ++ y.0 ∷ []) y.1) x e in
    let t = takes earlier rest a.0 fits good a.1 in
    let all = many_take X one spell Good takes n (earlier ++ a.0.0 ∷ []) a.0.1 x t.0.fits t.1 a.2 in
    let front : flat_map spell (earlier ++ a.0.0 ∷ []) ≡ flat_map spell earlier ++ spell a.0.0 =
    flat_map-append spell earlier (a.0.0 ∷ []) ∙ ap (λ (l : List ℕ). flat_map spell earlier ++ l) (append-nil (spell a.0.0)) in
    let here : flat_map spell earlier ++ rest.1 ≡ flat_map spell (earlier ++ a.0.0 ∷ []) ++ a.0.1.1 =
    ap (λ (l : List ℕ). flat_map spell earlier ++ l) t.0.parts ∙ sym (append_assoc (flat_map spell earlier) (spell a.0.0) a.0.1.1) ∙ ap (λ (l : List ℕ). l ++ a.0.1.1) (sym front) in
    record { parts = here ∙ all.parts; count = omega (arith, all.count, length-append earlier (a.0.0 ∷ [])); good = all.good; fits = all.fits }

many_again : (X : Type 0) (one : Reader X) (spell : X → List ℕ) (Good : List X → Type 0) → ReadsAgain X one spell Good → ((xs ys : List X) → Good (xs ++ ys) → Good xs)
    → (more earlier : List X) (p : ℕ) (bytes : List ℕ) → Good (earlier ++ more) → (q : ℕ) × (many one (length more) earlier (p, flat_map spell more ++ bytes) ≡ Ok (earlier ++ more, (q, bytes)))
unfolding many
many_again X one spell Good again front [] earlier p bytes good =
    (p, ap (λ (l : List X). let r : Result (List X × Rest) ℕ = Ok (l, (p, bytes)) in r) (sym (append-nil earlier)))
many_again X one spell Good again front (x ∷ more) earlier p bytes good =
    let regroup = append_assoc earlier (x ∷ []) more in
    let good-all : Good ((earlier ++ x ∷ []) ++ more) = subst Good (sym regroup) good in
    let a = again earlier x p (flat_map spell more ++ bytes) (front (earlier ++ x ∷ []) more good-all) in
    let b = many_again X one spell Good again front more (earlier ++ x ∷ []) a.0 bytes good-all in
    let here : many one (suc (length more)) earlier (p, spell x ++ (flat_map spell more ++ bytes)) ≡ Ok ((earlier ++ x ∷ []) ++ more, (b.0, bytes)) = rw a.1 b.1 in (
      b.0,
      ap (λ (l : List ℕ). many one (suc (length more)) earlier (p, l)) (append_assoc (spell x) (flat_map spell more) bytes) ∙ here
          ∙ ap (λ (l : List X). let r : Result (List X × Rest) ℕ = Ok (l, (b.0, bytes)) in r) regroup,
    )

-- ---- rows

abbrev row_before : StatusRow → StatusRow → Bool
row_before a b = nat_lt a.disk b.disk

abbrev RowsInOrder : List StatusRow → Type 0
RowsInOrder rows = InOrder StatusRow IsStatusRow (λ (a b : StatusRow). a.disk < b.disk) rows

abbrev row_made : ℕ → ℕ → List ℕ → StatusRow
row_made disk missing stale = record { disk = disk; missing = missing == 1; stale = stale }

abbrev after_marks : ℕ → ℕ → List ℕ × Rest → Result (StatusRow × Rest) ℕ
after_marks disk missing stale = zeros_at 1 stale.1 >>= λ after. Ok (row_made disk missing stale.0, after)

abbrev after_gap : ℕ → ℕ → Rest → Result (StatusRow × Rest) ℕ
after_gap disk missing gap = bytes_at 127 (λ bytes. true) gap >>= after_marks disk missing

abbrev after_missing : ℕ → ℕ × Rest → Result (StatusRow × Rest) ℕ
after_missing disk missing = zeros_at 1 missing.1 >>= after_gap disk missing.0

abbrev after_disk : ℕ × Rest → Result (StatusRow × Rest) ℕ
after_disk disk = number_at w8 is_flag disk.1 >>= after_missing disk.0

abbrev disk_test : List StatusRow → ℕ → Bool
disk_test earlier n = nat_lt n 128 && list_all (λ row. nat_lt row.disk n) earlier

flag_of : (n : ℕ) → is_flag n ≡ true → to_be_bytes w8 n ≡ flag (n == 1) ∷ []
flag_of zero good = refl
flag_of (suc zero) good = refl
flag_of (suc (suc n)) good = let small : suc (suc n) ≤ 1 = grind (arith, nat_tests) in absurd (omega (arith, small))

rows_take_one : TakesOne StatusRow status_row_at status_row_bytes RowsInOrder
unfolding status_row_at
rows_take_one earlier rest x fits good e =
    let a = bind_ok (number_at w16 (disk_test earlier) rest) after_disk x e in
    let disk = number_takes w16 (2 ^ 16) wide16 (disk_test earlier) rest a.0 fits a.1 in
    let b = bind_ok (number_at w8 is_flag a.0.1) (after_missing a.0.0) x a.2 in
    let missing = number_takes w8 (2 ^ 8) wide8 is_flag a.0.1 b.0 disk.0.fits b.1 in
    let c = bind_ok (zeros_at 1 b.0.1) (after_gap a.0.0 b.0.0) x b.2 in
    let gap = zeros_take 1 b.0.1 c.0 missing.0.fits c.1 in
    let d = bind_ok (bytes_at 127 (λ bytes. true) c.0) (after_marks a.0.0 b.0.0) x c.2 in
    let stale = bytes_takes 127 (λ bytes. true) c.0 d.0 gap.fits d.1 in
    let f = bind_ok (zeros_at 1 d.0.1) (λ after. Ok (row_made a.0.0 b.0.0 d.0.0, after)) x d.2 in
    let end = zeros_take 1 d.0.1 f.0 stale.0.fits f.1 in
    let marks = Takes-then c.0 d.0.0 d.0.1 (0 ∷ []) f.0 stale.0 end in
    let behind = Takes-then b.0.1 (0 ∷ []) c.0 (d.0.0 ++ 0 ∷ []) f.0 gap marks in
    let flagged : Takes a.0.1 (flag (b.0.0 == 1) ∷ []) b.0.1 = subst (λ (l : List ℕ). Takes a.0.1 l b.0.1) (flag_of b.0.0 missing.1) missing.0 in
    let most = Takes-then a.0.1 (flag (b.0.0 == 1) ∷ []) b.0.1 ((0 ∷ []) ++ (d.0.0 ++ 0 ∷ [])) f.0 flagged behind in
    let all : Takes rest (status_row_bytes (row_made a.0.0 b.0.0 d.0.0)) f.0 =
    Takes-then rest (to_be_bytes w16 a.0.0) a.0.1 ((flag (b.0.0 == 1) ∷ []) ++ ((0 ∷ []) ++ (d.0.0 ++ 0 ∷ []))) f.0 disk.0 most in
    let tests = and_parts (nat_lt a.0.0 128) (list_all (λ (row : StatusRow). nat_lt row.disk a.0.0) earlier) disk.1 in
    let pushed : RowsInOrder (earlier ++ row_made a.0.0 b.0.0 d.0.0 ∷ []) =
    order_push StatusRow IsStatusRow (λ (a b : StatusRow). a.disk < b.disk) row_before (λ a b h. ltb-true a.disk b.disk h) earlier (row_made a.0.0 b.0.0 d.0.0) good
    (record { disk = ltb-true a.0.0 128 tests.0; size = stale.1 }) tests.1 in
    let made : StatusRow × Rest = (row_made a.0.0 b.0.0 d.0.0, f.0) in
    subst (λ (y : StatusRow × Rest). Takes rest (status_row_bytes y.0) y.1 × RowsInOrder (earlier ++ y.0 ∷ [])) (ok_is made x f.2) (all, pushed)

flag_fits : (b : Bool) → (flag b < 256) × (is_flag (flag b) ≡ true) × ((flag b == 1) ≡ b) × (to_be_bytes w8 (flag b) ≡ flag b ∷ [])
flag_fits true = (omega arith, refl, refl, refl)
flag_fits false = (omega arith, refl, refl, refl)

rows_again_one : ReadsAgain StatusRow status_row_at status_row_bytes RowsInOrder
unfolding status_row_at
rows_again_one earlier row p bytes good =
    let valid = order_last StatusRow IsStatusRow (λ (a b : StatusRow). a.disk < b.disk) earlier row good in
    let behind = order_behind StatusRow IsStatusRow (λ (a b : StatusRow). a.disk < b.disk) row_before (λ a b h. lt-ltb a.disk b.disk h) earlier row good in
    let test : disk_test earlier row.disk ≡ true = and_from (nat_lt row.disk 128) (list_all (λ (r : StatusRow). nat_lt r.disk row.disk) earlier) (lt-ltb row.disk 128 valid.disk) behind in
    let missing = flag_fits row.missing in
    let tail : List ℕ = 0 ∷ (row.stale ++ 0 ∷ bytes) in
    let disk-read = number_again w16 (2 ^ 16) wide16 (disk_test earlier) p row.disk (flag row.missing ∷ 0 ∷ (row.stale ++ 0 ∷ bytes)) (omega (arith, valid.disk)) test in
    let flag-read : number_at w8 is_flag (p + 2, flag row.missing ∷ 0 ∷ (row.stale ++ 0 ∷ bytes)) ≡ Ok (flag row.missing, (p + 2 + 1, 0 ∷ (row.stale ++ 0 ∷ bytes))) =
    ap (λ (l : List ℕ). number_at w8 is_flag (p + 2, l ++ 0 ∷ (row.stale ++ 0 ∷ bytes))) (sym missing.3)
    ∙ number_again w8 (2 ^ 8) wide8 is_flag (p + 2) (flag row.missing) (0 ∷ (row.stale ++ 0 ∷ bytes)) (omega (arith, missing.0)) missing.1 in
    let gap-read = zeros_again 1 (p + 2 + 1) (row.stale ++ 0 ∷ bytes) in
    let marks-read = bytes_again 127 (λ l. true) (p + 2 + 1 + 1) row.stale (0 ∷ bytes) valid.size refl in
    let end-read = zeros_again 1 (p + 2 + 1 + 1 + 127) bytes in
    let made : row_made row.disk (flag row.missing) row.stale ≡ row = λ t. record { disk = row.disk; missing = missing.2 t; stale = row.stale } in
    let regroup : status_row_bytes row ++ bytes ≡ to_be_bytes w16 row.disk ++ (flag row.missing ∷ 0 ∷ (row.stale ++ 0 ∷ bytes)) =
    ap (λ (l : List ℕ). to_be_bytes w16 row.disk ++ (flag row.missing ∷ 0 ∷ l)) (append_assoc row.stale (0 ∷ []) bytes) in (
      p + 2 + 1 + 1 + 127 + 1,
      ap (λ (l : List ℕ). status_row_at earlier (p, l)) regroup
          ∙ rw (disk-read, flag-read, gap-read, marks-read, end-read) (ap (λ (r : StatusRow). let x : Result (StatusRow × Rest) ℕ = Ok (r, (p + 2 + 1 + 1 + 127 + 1, bytes)) in x) made),
    )

pub rows_take : (n : ℕ) (rest : Rest) (x : List StatusRow × Rest) → IsBytes rest.1 → status_rows_at n [] rest ≡ Ok x → Takes rest (flat_map status_row_bytes x.0) x.1 × (length x.0 ≡ n) × AreStatusRows x.0
rows_take n rest x fits e =
    let none : RowsInOrder [] = record { each = λ k d lt. absurd (omega (arith, lt)); ordered = λ i j d less lt. absurd (omega (arith, lt)) } in
    let t = many_take StatusRow status_row_at status_row_bytes RowsInOrder rows_take_one n [] rest x fits none (sym (many_rows n [] rest) ∙ e) in
    (record { parts = t.parts; fits = t.fits }, omega (arith, t.count), record { each = t.good.each; disks_rise = t.good.ordered })

pub rows_again : (rows : List StatusRow) (p : ℕ) (bytes : List ℕ) → AreStatusRows rows → (q : ℕ) × (status_rows_at (length rows) [] (p, flat_map status_row_bytes rows ++ bytes) ≡ Ok (rows, (q, bytes)))
rows_again rows p bytes good =
    let ordered : RowsInOrder rows = record { each = good.each; ordered = good.disks_rise } in
    let a = many_again StatusRow status_row_at status_row_bytes RowsInOrder rows_again_one (λ xs ys. order_front StatusRow IsStatusRow (λ (a b : StatusRow). a.disk < b.disk) xs ys) rows [] p bytes ordered in
    (a.0, many_rows (length rows) [] (p, flat_map status_row_bytes rows ++ bytes) ∙ a.1)

-- ---- dirty volumes

abbrev NumbersInOrder : List ℕ → Type 0
NumbersInOrder numbers = InOrder ℕ IsVolumeNumber (λ (a b : ℕ). a < b) numbers

abbrev volume_test : List ℕ → ℕ → Bool
volume_test earlier n = nat_le 1 n && nat_le n 511 && list_all (λ m. nat_lt m n) earlier

numbers_take_one : TakesOne ℕ volume_at (to_be_bytes w16) NumbersInOrder
numbers_take_one earlier rest x fits good e =
    let t = number_takes w16 (2 ^ 16) wide16 (volume_test earlier) rest x fits e in
    let tests = and_parts (nat_le 1 x.0 && nat_le x.0 511) (list_all (λ m. nat_lt m x.0) earlier) t.1 in
    let bounds = and_parts (nat_le 1 x.0) (nat_le x.0 511) tests.0 in
    let least : 1 ≤ x.0 = le_from 1 x.0 bounds.0 in
    let most : x.0 ≤ 511 = le_from x.0 511 bounds.1 in
    (t.0, order_push ℕ IsVolumeNumber (λ (a b : ℕ). a < b) nat_lt (λ a b h. ltb-true a b h) earlier x.0 good (record { least = least; most = most }) tests.1)
  where
    le_from : (a b : ℕ) → nat_le a b ≡ true → a ≤ b
    le_from a b h = grind (arith, nat_tests)

numbers_again_one : ReadsAgain ℕ volume_at (to_be_bytes w16) NumbersInOrder
numbers_again_one earlier n p bytes good =
    let valid = order_last ℕ IsVolumeNumber (λ (a b : ℕ). a < b) earlier n good in
    let behind = order_behind ℕ IsVolumeNumber (λ (a b : ℕ). a < b) nat_lt lt-ltb earlier n good in
    let bounds = and_from (nat_le 1 n) (nat_le n 511) (le_test 1 n valid.least) (le_test n 511 valid.most) in
    let test : volume_test earlier n ≡ true = and_from (nat_le 1 n && nat_le n 511) (list_all (λ m. nat_lt m n) earlier) bounds behind in
    (p + 2, number_again w16 (2 ^ 16) wide16 (volume_test earlier) p n bytes (omega (arith, valid.most)) test)
  where
    le_test : (a b : ℕ) → a ≤ b → nat_le a b ≡ true
    le_test a b h = grind (arith, nat_tests)

pub numbers_take : (n : ℕ) (rest : Rest) (x : List ℕ × Rest) → IsBytes rest.1 → numbers_at n [] rest ≡ Ok x → Takes rest (flat_map (to_be_bytes w16) x.0) x.1 × (length x.0 ≡ n) × AreDirty x.0
numbers_take n rest x fits e =
    let none : NumbersInOrder [] = record { each = λ k d lt. absurd (omega (arith, lt)); ordered = λ i j d less lt. absurd (omega (arith, lt)) } in
    let t = many_take ℕ volume_at (to_be_bytes w16) NumbersInOrder numbers_take_one n [] rest x fits none (sym (many_numbers n [] rest) ∙ e) in
    (record { parts = t.parts; fits = t.fits }, omega (arith, t.count), record { each = t.good.each; numbers_rise = t.good.ordered })

pub numbers_again : (numbers : List ℕ) (p : ℕ) (bytes : List ℕ) → AreDirty numbers → (q : ℕ) × (numbers_at (length numbers) [] (p, flat_map (to_be_bytes w16) numbers ++ bytes) ≡ Ok (numbers, (q, bytes)))
numbers_again numbers p bytes good =
    let ordered : NumbersInOrder numbers = record { each = good.each; ordered = good.numbers_rise } in
    let a = many_again ℕ volume_at (to_be_bytes w16) NumbersInOrder numbers_again_one (λ xs ys. order_front ℕ IsVolumeNumber (λ (a b : ℕ). a < b) xs ys) numbers [] p bytes ordered in
    (a.0, many_numbers (length numbers) [] (p, flat_map (to_be_bytes w16) numbers ++ bytes) ∙ a.1)
