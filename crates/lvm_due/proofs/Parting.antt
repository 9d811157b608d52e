-- The blocks of a volume by its logical partitions.
use Rattle.std.proofs.Common.{◌≡◌, ◌+◌, ◌*◌, ◌/◌, ◌<◌, ◌≤◌, ◌==◌, ◌&&◌, ℕ, suc, nat_le, nat_lt, ap, arith}
use Rattle.std.proofs.lemmas.Bool.{and_from, and_parts, le-leb, leb-true, lt-ltb, ltb-true}
use Rattle.std.proofs.lemmas.Bool.Decides.{Decides-eqb, same_from_decides}
use Rattle.std.proofs.lemmas.Nat.{div-add-mod', div_below, le-div, mod_below}

-- a block lies in a partition where it is one of its m blocks, which begin at `first`
pub same_partition : (x m q first : ℕ) → 0 < m → first ≡ q * m → (x / m == q) ≡ (nat_le first x && nat_lt x (first + m))
same_partition x m q first some is =
    same_from_decides {P = x / m ≡ q} (x / m == q) (nat_le first x && nat_lt x (first + m)) (Decides-eqb (x / m) q) (
      λ both.
          let parts = and_parts (nat_le first x) (nat_lt x (first + m)) both in
          let low : q ≤ x / m = le-div q x m some (omega (arith, leb-true first x parts.0, is)) in
          let high : x / m < suc q = div_below x m (suc q) some (omega (arith, ltb-true x (first + m) parts.1, is)) in
          omega arith,
      λ same.
          let at : x / m * m ≡ q * m = ap (λ (n : ℕ). n * m) same in
          and_from (nat_le first x) (nat_lt x (first + m)) (le-leb first x (omega (arith, is, at, div-add-mod' x m)))
          (lt-ltb x (first + m) (omega (arith, is, at, div-add-mod' x m, mod_below x m some))),
    )
