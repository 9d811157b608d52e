-- How many digits a number has.
use Rattle.std.proofs.Common.{◌≡◌, ℕ, ◌+◌, ◌-◌, ◌/◌, ◌%◌, ◌^◌, ◌<◌, ◌≤◌, List, [], ◌∷◌, length, replicate, sym, ap, ◌∙◌, arith, length-append}
use Rattle.std.specs.Fmt.{decimal}
use Rattle.std.proofs.lemmas.Fmt.{decimal_digit, decimal_step, decimal_nonempty}

pub one : (n : ℕ) → n < 10 → length (decimal n) ≡ 1
one n small = ap length (decimal_digit n small)

pub more : (n : ℕ) → 10 ≤ n → n < 2 ^ 64 → length (decimal n) ≡ length (decimal (n / 10)) + 1
more n large fits = ap length (decimal_step n large fits) ∙ length-append (decimal (n / 10)) ((48 + n % 10) ∷ [])

pub two : (n : ℕ) → 10 ≤ n → n < 100 → length (decimal n) ≡ 2
two n low high = omega (arith, more n low (omega arith), one (n / 10) (omega arith))

pub three : (n : ℕ) → 100 ≤ n → n < 1000 → length (decimal n) ≡ 3
three n low high = omega (arith, more n (omega arith) (omega arith), two (n / 10) (omega arith) (omega arith))

pub four : (n : ℕ) → 1000 ≤ n → n < 2 ^ 64 → 4 ≤ length (decimal n)
four n low fits =
    let first = more n (omega arith) fits in
    let second = more (n / 10) (omega arith) (omega arith) in
    let third = more (n / 10 / 10) (omega arith) (omega arith) in
    let last = decimal_nonempty (n / 10 / 10 / 10) (omega arith) in
    omega (arith, first, second, third, last)

abbrev pub zeros : ℕ → List ℕ
zeros k = replicate k 48

-- the zeros in front, where so many digits are there
pub filled : (n k : ℕ) → length (decimal n) ≡ k → zeros (4 - k) ≡ zeros (4 - length (decimal n))
filled n k is = ap (λ l. zeros (4 - l)) (sym is)

pub full : (n : ℕ) → 4 ≤ length (decimal n) → zeros 0 ≡ zeros (4 - length (decimal n))
full n many = let e : 4 - length (decimal n) ≡ 0 = omega arith in ap zeros (sym e)
