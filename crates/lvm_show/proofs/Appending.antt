-- A text that grows by a piece for each item.
use Rattle.std.proofs.Common.{◌≡◌, ℕ, ◌+◌, ◌<◌, List, [], ◌∷◌, ◌++◌, length, take, map, get_or, sym, ap, ◌∙◌, arith, append-nil}
use Rattle.std.specs.Prelude.{flat_map}
use Rattle.std.specs.List.{range_with_len}
use Rattle.std.proofs.lemmas.List.{take_more}
use Rattle.std.proofs.lemmas.List.Concat.{flat_map-append}
use Rattle.std.proofs.lemmas.List.Folds.{flat_map-map}
use Rattle.std.proofs.lemmas.List.FromFn.{map-range_with_len_more}

last_piece : {X : Type 0} (f : X → List ℕ) (xs : List X) (x : X) → flat_map f (xs ++ x ∷ []) ≡ flat_map f xs ++ f x
last_piece f xs x = flat_map-append f xs (x ∷ []) ∙ ap (λ (last : List ℕ). flat_map f xs ++ last) (append-nil (f x))

-- the next item of a list
pub pieces_more : {X : Type 0} (f : X → List ℕ) (xs : List X) (i : ℕ) (x : X) (text next : List ℕ) → i < length xs → x ≡ get_or xs i x
    → text ≡ flat_map f (take i xs) → next ≡ text ++ f x → next ≡ flat_map f (take (i + 1) xs)
pieces_more {X} f xs i x text next lt at before now =
    now ∙ ap (λ (t : List ℕ). t ++ f x) before
    ∙ ap (λ (y : X). flat_map f (take i xs) ++ f y) at
    ∙ sym (ap (flat_map f) (take_more xs i x lt) ∙ last_piece f (take i xs) (get_or xs i x))

abbrev same : ℕ → ℕ
same n = n

-- the next number
pub numbers_more : (f : ℕ → List ℕ) (n : ℕ) (text next : List ℕ) → text ≡ flat_map f (range_with_len 0 n) → next ≡ text ++ f n
    → next ≡ flat_map f (range_with_len 0 (n + 1))
numbers_more f n text next before now =
    now ∙ ap (λ (t : List ℕ). t ++ f n) before
    ∙ ap (λ (t : List ℕ). t ++ f n) (sym (flat_map-map f same (range_with_len 0 n)))
    ∙ sym (last_piece f (map same (range_with_len 0 n)) n)
    ∙ sym (ap (flat_map f) (map-range_with_len_more same 0 n n (omega arith)))
    ∙ flat_map-map f same (range_with_len 0 (n + 1))
