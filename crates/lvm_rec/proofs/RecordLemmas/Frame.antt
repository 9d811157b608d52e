-- The parts of a payload.
use Rattle.std.proofs.Common.{◌≡◌, inl, inr, ℕ, zero, suc, ◌+◌, ◌-◌, ◌*◌, ◌<◌, ◌≤◌, min, List, [], ◌∷◌, ◌++◌, append-nil, append_assoc, length, take, drop, replicate, refl, sym, ap, ◌∙◌, arith}
use Rattle.std.specs.Int.{w32, to_be_bytes}
use Rattle.std.proofs.lemmas.Bool.{cases_lt}
use Rattle.std.proofs.lemmas.List.{drop_at, drop-drop, take_all, drop_all, take-append-le, drop-append-le, length-replicate, length-drop, take-replicate, drop-replicate}
use Rattle.lvm_num.specs.Record.{record_sectors, payload}

-- the front of two lists, the second of which begins within it
take-append : {X : Type 0} (n : ℕ) (xs ys : List X) → length xs ≤ n → take n (xs ++ ys) ≡ xs ++ take (n - length xs) ys
take-append n [] ys le = ap (λ k. take k ys) (omega arith)
take-append zero (x ∷ xs) ys le = absurd (omega (arith, le))
take-append {X} (suc n) (x ∷ xs) ys le =
    let left : n - length xs ≡ suc n - suc (length xs) = omega arith in
    ap (λ (l : List X). x ∷ l) (take-append n xs ys (omega arith)) ∙ ap (λ k. x ∷ (xs ++ take k ys)) left

-- a front of a list over the front of n zeros is a front of the list with zeros behind it
pub over_zeros : (n m z : ℕ) (rest front : List ℕ) → m ≡ min (length rest) n → front ≡ take m rest → n - length rest ≤ z
    → front ++ drop m (replicate n 0) ≡ take n (rest ++ replicate z 0)
over_zeros n m z rest front size is enough = ap (λ (l : List ℕ). l ++ drop m (replicate n 0)) is ∙ elim (cases_lt (length rest) n) [
  | inl less ↦
      let m-is : m ≡ length rest = omega arith in
      ap (λ k. take k rest ++ drop k (replicate n 0)) m-is
      ∙ ap (λ (l : List ℕ). l ++ drop (length rest) (replicate n 0)) (take_all (length rest) rest (omega arith))
      ∙ ap (λ (l : List ℕ). rest ++ l) (drop-replicate (length rest) n 0 ∙ sym (take-replicate (n - length rest) z 0 enough))
      ∙ sym (take-append n rest (replicate z 0) (omega arith))
  | inr more ↦
      let m-is : m ≡ n = omega arith in
      ap (λ k. take k rest ++ drop k (replicate n 0)) m-is
      ∙ ap (λ (l : List ℕ). take n rest ++ l) (drop_all n (replicate n 0) (omega (arith, length-replicate {A = ℕ} n 0)))
      ∙ append-nil (take n rest)
      ∙ sym (take-append-le n rest (replicate z 0) more)
]

-- the first part: the length, and the front of the content behind it
pub first_is : (content word front : List ℕ) (m k : ℕ) → word ≡ to_be_bytes w32 (length content) ++ drop 4 (take 4 (replicate 496 0))
    → m ≡ min (length content) 492 → front ≡ take m content → k ≡ m
    → take 4 (word ++ drop 4 (replicate 496 0)) ++ (front ++ drop k (drop 4 (word ++ drop 4 (replicate 496 0)))) ≡ take 496 (payload content)
first_is content word front m k is size front-is same =
    let n = record_sectors (length content) in
    let z = 496 * record_sectors (length content) - 4 - length content in
    let zeros : List ℕ = drop 4 (replicate 496 0) in
    let enough : 492 - length content ≤ z = omega arith in
    ap (λ (j : ℕ). take 4 (word ++ zeros) ++ (front ++ drop j (drop 4 (word ++ zeros)))) same
    ∙ ap (λ (w : List ℕ). take 4 (w ++ zeros) ++ (front ++ drop m (drop 4 (w ++ zeros)))) is
    ∙ ap (λ (l : List ℕ). to_be_bytes w32 (length content) ++ l) (over_zeros 492 m z content front size front-is enough)
    ∙ ap (take 496) (sym (append_assoc (to_be_bytes w32 (length content)) content (replicate z 0)))

-- a later part: what is left of the content behind the parts before it
pub later_is : (content : List ℕ) (i : ℕ) → 0 < i → i < record_sectors (length content)
    → take 496 (drop (496 * i - 4) content ++ replicate 496 0) ≡ take 496 (drop (496 * i) (payload content))
later_is content i some within =
    let from = 496 * i - 4 in
    let z = 496 * record_sectors (length content) - 4 - length content in
    let rest = drop (496 * i - 4) content in
    let m = min (length rest) 496 in
    let size : length (drop (496 * i - 4) content) ≡ length content - (496 * i - 4) = length-drop (496 * i - 4) content in
    let inside : 496 * i - 4 ≤ length content = omega arith in
    let enough : 496 - length rest ≤ z = omega (arith, size) in
    let place : 496 * i ≡ 4 + (496 * i - 4) = omega arith in
    sym (over_zeros 496 m 496 rest (take m rest) refl refl (omega arith))
    ∙ over_zeros 496 m z rest (take m rest) refl refl enough
    ∙ ap (take 496) (sym (drop-append-le from content (replicate z 0) inside))
    ∙ ap (λ (l : List ℕ). take 496 (drop from l)) (sym (drop_at (to_be_bytes w32 (length content)) (content ++ replicate z 0) 4 refl))
    ∙ ap (take 496) (drop-drop from 4 (to_be_bytes w32 (length content) ++ (content ++ replicate z 0)))
    ∙ ap (λ k. take 496 (drop k (to_be_bytes w32 (length content) ++ (content ++ replicate z 0)))) (sym place)
    ∙ ap (λ (l : List ℕ). take 496 (drop (496 * i) l)) (sym (append_assoc (to_be_bytes w32 (length content)) content (replicate z 0)))
