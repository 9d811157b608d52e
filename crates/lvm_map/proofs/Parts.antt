-- A number as a quotient and a rest.
use Rattle.std.proofs.Common.{◌≡◌, inl, inr, ℕ, suc, ◌+◌, ◌*◌, ◌/◌, ◌%◌, ◌<◌, ◌≤◌, ap, ◌∙◌, arith}
use Rattle.std.proofs.lemmas.Bool.{cases_lt}
use Rattle.std.proofs.Math.Nat.{mul-le-mul_right}

pub same_parts : (c a b x y : ℕ) → x < c → y < c → a * c + x ≡ b * c + y → (a ≡ b) × (x ≡ y)
same_parts c a b x y x-lt y-lt same = elim (cases_lt a b) [
  | inl less ↦ let le : suc a * c ≤ b * c = mul-le-mul_right c less in absurd (omega arith)
  | inr more ↦ elim (cases_lt b a) [
    | inl greater ↦ let le : suc b * c ≤ a * c = mul-le-mul_right c greater in absurd (omega arith)
    | inr equal ↦
        let is : a ≡ b = omega arith in
        let product = ap (λ n. n * c) is in
        (is, omega arith)
  ]
]

-- the quotient and the rest of a number
pub parts : (c n a x : ℕ) → x < c → n ≡ a * c + x → (n / c ≡ a) × (n % c ≡ x)
parts c n a x lt is =
    let rest : n % c < c = omega arith in
    let whole : n / c * c + n % c ≡ n = grind (arith) in
    same_parts c (n / c) a (n % c) x rest lt (whole ∙ is)

pub whole : (c n : ℕ) → 0 < c → n / c * c + n % c ≡ n
whole c n some = grind (arith)
