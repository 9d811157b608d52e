-- What the digits of a number add up to.
use Rattle.std.proofs.Common.{◌≡◌, ◌&&◌, Option, Some, None, nat_le, nat_lt, ℕ, ◌+◌, ◌-◌, ◌*◌, ◌^◌, ◌≤◌, ◌<◌, ◌==◌, Bool, true, false, cond, if◌then◌else◌, List, [], ◌∷◌, length, get_or, drop, refl, sym, ◌∙◌, ap, arith}
use Rattle.std.proofs.lemmas.List.{drop_more}
use Rattle.std.proofs.lemmas.Bool.{le-ltb}
use Rattle.std.proofs.lemmas.Bool.Decides.{nat_tests}
use Rattle.std.specs.List.{list_all}
use Rattle.std.proofs.Math.Nat.{pow-succ'}
use Rattle.lvm_parse.specs.Words.{decimal_from, is_digit, number_in, is_hex_digit, hex_from, hex_value, word_in}

-- more digits make no smaller number
pub decimal_grows : (n : ℕ) (digits : List ℕ) → n ≤ decimal_from n digits
decimal_grows n [] = omega arith
decimal_grows n (b ∷ digits) = omega (arith, decimal_grows (10 * n + (b - 48)) digits)

pub hex_grows : (n : ℕ) (digits : List ℕ) → n ≤ hex_from n digits
hex_grows n [] = omega arith
hex_grows n (b ∷ digits) = let more = hex_grows (16 * n + hex_value b) digits in grow n (hex_value b) _ more
  where
    grow : (n v m : ℕ) → 16 * n + v ≤ m → n ≤ m
    grow n v m le = omega arith

-- a test that fails makes no number
none_from : (a b c d : Bool) (x : Option ℕ) → d ≡ false → (if a && b && c && d then x else None) ≡ None
none_from true true true d x is = ap (λ (t : Bool). cond t x None) is
none_from true true false d x is = refl
none_from true false c d x is = refl
none_from false b c d x is = refl

-- digits that pass 2 ^ 64 make no number
pub past_limit : (word : List ℕ) (i n : ℕ) → i < length word → decimal_from n (drop i word) ≡ decimal_from 0 word → 2 ^ 64 ≤ 10 * n + (get_or word i 0 - 48) → number_in word ≡ None
past_limit word i n within so_far above =
    let next : decimal_from (10 * n + (get_or word i 0 - 48)) (drop (i + 1) word) ≡ decimal_from 0 word = ap (decimal_from n) (sym (drop_more word i 0 within)) ∙ so_far in
    let grows : 10 * n + (get_or word i 0 - 48) ≤ decimal_from (10 * n + (get_or word i 0 - 48)) (drop (i + 1) word) = decimal_grows (10 * n + (get_or word i 0 - 48)) (drop (i + 1) word) in
    let large : 2 ^ 64 ≤ decimal_from 0 word = omega (arith, next, grows, above) in
    let test : nat_lt (decimal_from 0 word) (2 ^ 64) ≡ false = le-ltb (decimal_from 0 word) (2 ^ 64) large in
    none_from (nat_le 1 (length word)) (nat_le (length word) 20) (list_all is_digit word) (nat_lt (decimal_from 0 word) (2 ^ 64)) (Some (decimal_from 0 word)) test

-- and those that don't are the number
pub is_number : (word : List ℕ) (n : ℕ) → 1 ≤ length word → length word ≤ 20 → list_all is_digit word ≡ true → n < 2 ^ 64 → n ≡ decimal_from 0 word → number_in word ≡ Some n
is_number word n some few digits small is =
    let a : nat_le 1 (length word) ≡ true = grind (arith, nat_tests) in
    let b : nat_le (length word) 20 ≡ true = grind (arith, nat_tests) in
    let d : nat_lt (decimal_from 0 word) (2 ^ 64) ≡ true = grind (arith, nat_tests) in
    all_true _ _ _ _ a b digits d (ap Some (sym is))
  where
    all_true : (a b c d : Bool) → a ≡ true → b ≡ true → c ≡ true → d ≡ true → {x y : Option ℕ} → x ≡ y → (if a && b && c && d then x else None) ≡ y
    all_true a b c d p q r s is = cc

hex_small : (b : ℕ) → is_hex_digit b ≡ true → hex_value b < 16
hex_small b is = grind (arith, nat_tests)

-- hexadecimal digits make a number below a power of 16
hex_bound : (n : ℕ) (digits : List ℕ) → list_all is_hex_digit digits ≡ true → hex_from n digits + 1 ≤ (n + 1) * 16 ^ length digits
hex_bound n [] all = let e : ◌≡◌ {A = ℕ} ((n + 1) * 16 ^ 0) (n + 1) = grind arith in omega (arith, e)
hex_bound n (b ∷ digits) all =
    let own : is_hex_digit b ≡ true = first_of (is_hex_digit b) (list_all is_hex_digit digits) all in
    let rest : list_all is_hex_digit digits ≡ true = rest_of (is_hex_digit b) (list_all is_hex_digit digits) all in
    let more = hex_bound (16 * n + hex_value b) digits rest in
    let small : hex_value b < 16 = hex_small b own in
    rw pow-succ' (step n (hex_value b) (16 ^ length digits) (hex_from (16 * n + hex_value b) digits) small more)
  where
    first_of : (a b : Bool) → (a && b) ≡ true → a ≡ true
    first_of true b e = refl
    first_of false b e = e

    rest_of : (a b : Bool) → (a && b) ≡ true → b ≡ true
    rest_of true b e = e
    rest_of false b e = absurd (cc)

    step : (n v p m : ℕ) → v < 16 → m + 1 ≤ (16 * n + v + 1) * p → m + 1 ≤ (n + 1) * (16 * p)
    step n v p m small le = grind arith

pick : (all : Bool) (a : Bool) (x : Option ℕ) → (all ≡ true → ⊥) → (if a && all then x else None) ≡ None
pick true a x none = absurd (none refl)
pick false true x none = refl
pick false false x none = refl

-- 16 of them never pass 2 ^ 64
pub no_overflow : (word : List ℕ) (i n : ℕ) → length word ≡ 16 → i < length word → hex_from n (drop i word) ≡ hex_from 0 word → 2 ^ 64 ≤ 16 * n → word_in word ≡ None
no_overflow word i n long within so_far above = pick (list_all is_hex_digit word) (length word == 16) (Some (hex_from 0 word)) (λ all.
    let bound : hex_from 0 word + 1 ≤ (0 + 1) * 16 ^ length word = hex_bound 0 word all in
    let power : 16 ^ length word ≡ 2 ^ 64 = ap (λ (k : ℕ). 16 ^ k) long in
    let next : hex_from (16 * n + hex_value (get_or word i 0)) (drop (i + 1) word) ≡ hex_from 0 word = ap (hex_from n) (sym (drop_more word i 0 within)) ∙ so_far in
    let grows : 16 * n + hex_value (get_or word i 0) ≤ hex_from (16 * n + hex_value (get_or word i 0)) (drop (i + 1) word) = hex_grows (16 * n + hex_value (get_or word i 0)) (drop (i + 1) word) in
    clash (hex_from 0 word) (16 ^ length word) n (hex_value (get_or word i 0)) (hex_from (16 * n + hex_value (get_or word i 0)) (drop (i + 1) word)) bound power next grows above)
  where
    clash : (h p n v g : ℕ) → h + 1 ≤ (0 + 1) * p → p ≡ 2 ^ 64 → g ≡ h → 16 * n + v ≤ g → 2 ^ 64 ≤ 16 * n → ⊥
    clash h p n v g bound power next grows above = let e : (0 + 1) * p ≡ p = grind arith in omega (arith, bound, power, next, grows, above, e)
