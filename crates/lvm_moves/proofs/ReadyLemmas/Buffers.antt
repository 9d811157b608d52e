-- How many buffers of a pool are out.
use Rattle.std.proofs.Common.{◌≡◌, ◌==◌, ◌≤◌, ◌<◌, ◌+◌, ℕ, zero, suc, Bool, true, false, not, List, [], ◌∷◌, length, slice_set, refl, sym, ap, arith}
use Rattle.std.specs.Prelude.{count_by, slice_index_or}
use Rattle.std.specs.List.{list_any}
use Rattle.std.proofs.lemmas.Bool.{eq-eqb, eqb-true, eqb-false}
use Rattle.std.proofs.lemmas.List.Sums.{count_by-le-length, sum_by-cons}
use Rattle.lvm_num.specs.Buffer.{Buffer}
use Rattle.lvm_num.proofs.Lists.{beside_set}
use Rattle.lvm_session.specs.Sound.{count_if, has_number}

-- the buffer is out
abbrev pub is_out : Bool → Bool
is_out out = out

counted : {A : Type 0} (t : A → Bool) (x : A) (xs : List A) → count_by t (x ∷ xs) ≡ count_if (t x) + count_by t xs
counted t x xs = sum_by-cons (λ y. count_if (t y)) x xs

-- ---- one comes back

one_back : (pool : List Bool) (n : ℕ) → slice_index_or pool n false ≡ true → count_by is_out (slice_set pool n false) + 1 ≡ count_by is_out pool
one_back [] n is = absurd (cc is)
one_back (b ∷ pool) zero is =
    let now = counted is_out false pool in
    let was = counted is_out b pool in
    let one : count_if b ≡ 1 = ap count_if is in
    omega (arith, now, was, one)
one_back (b ∷ pool) (suc n) is =
    let rest = one_back pool n is in
    let now = counted is_out b (slice_set pool n false) in
    let was = counted is_out b pool in
    omega (arith, rest, now, was)

-- ---- buffers that are out, each at one place

some : (b : Bool) (more : ℕ) → 1 + more ≤ count_if b → (b ≡ true) × (more ≡ 0)
some true more low = (refl, omega (arith, low))
some false more low = absurd (omega (arith, low))

pub fits : (buffers : List Buffer) (pool : List Bool) → ((n : ℕ) → count_by (has_number n) buffers ≤ count_if (slice_index_or pool n false)) → length buffers ≤ count_by is_out pool
fits [] pool low = omega arith
fits (buf ∷ buffers) pool low =
    let less = one_back pool buf.number its.0 in
    let rest = fits buffers (slice_set pool buf.number false) others in
    omega (arith, less, rest)
  where
    its : (slice_index_or pool buf.number false ≡ true) × (count_by (has_number buf.number) buffers ≡ 0)
    its = some (slice_index_or pool buf.number false) (count_by (has_number buf.number) buffers)
        (let all = low buf.number in let more = counted (has_number buf.number) buf buffers in let one : count_if (has_number buf.number buf) ≡ 1 = ap count_if (eq-eqb buf.number buf.number refl) in omega (arith, all, more, one))

    others : (n : ℕ) → count_by (has_number n) buffers ≤ count_if (slice_index_or (slice_set pool buf.number false) n false)
    others n = by (buf.number == n) refl
      where
        by : (b : Bool) → (buf.number == n) ≡ b → count_by (has_number n) buffers ≤ count_if (slice_index_or (slice_set pool buf.number false) n false)
        by true is =
            let same = eqb-true buf.number n is in
            let none = its.1 in
            let here : count_by (has_number n) buffers ≡ count_by (has_number buf.number) buffers = ap (λ k. count_by (has_number k) buffers) (sym same) in
            omega (arith, none, here)
        by false is =
            let all = low n in
            let more = counted (has_number n) buf buffers in
            let kept : count_if (slice_index_or (slice_set pool buf.number false) n false) ≡ count_if (slice_index_or pool n false) = ap count_if (beside_set pool buf.number n (λ e. eqb-false buf.number n is (sym e))) in
            omega (arith, all, more, kept)

-- ---- how many there may be

pub most : (pool : List Bool) → count_by is_out pool ≤ length pool
most pool = count_by-le-length is_out pool

-- fewer than all are out, where one isn't
pub some_in : (pool : List Bool) → list_any not pool ≡ true → count_by is_out pool < length pool
some_in [] is = absurd (cc is)
some_in (true ∷ pool) is = let rest = some_in pool is in let more = counted is_out true pool in omega (arith, rest, more)
some_in (false ∷ pool) is = let rest = most pool in let more = counted is_out false pool in omega (arith, rest, more)
