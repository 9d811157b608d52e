-- The items of a tail, as one is put in the place of another or leaves.
use Rattle.std.proofs.Common.{◌≡◌, ◌+◌, ◌<◌, [], ◌∷◌, ℕ, zero, suc, List, refl, sym, ◌∙◌, ap, arith, length, length-drop, drop, set}
use Rattle.std.specs.Prelude.{remove}
use Rattle.std.proofs.lemmas.List.{drop-set-add}
use Rattle.lvm_hold.specs.Tails.{Items}

module _ {T : Type 0} where
  same_items : (room : ℕ) (xs ys : List T) → xs ≡ ys → ◌≡◌ {A = Items T} (record { room = room; items = xs }) (record { room = room; items = ys })
  same_items room xs ys same = ap (λ (zs : List T). let it : Items T = record { room = room; items = zs } in it) same

  drop_first : (n : ℕ) (xs : List T) → n < length xs → drop (suc n) xs ≡ remove (drop n xs) 0
  drop_first n [] lt = absurd (omega arith)
  drop_first zero (x ∷ xs) lt = refl
  drop_first (suc n) (x ∷ xs) lt = drop_first n xs (omega arith)

  drop_remove : (n k m : ℕ) (xs : List T) → m ≡ n + k → m < length xs → drop n (remove xs m) ≡ remove (drop n xs) k
  drop_remove n k m [] is lt = absurd (omega arith)
  drop_remove zero k m (x ∷ xs) is lt = ap (λ (j : ℕ). remove (x ∷ xs) j) (let e : m ≡ k = omega (arith, is) in e)
  drop_remove (suc n) k zero (x ∷ xs) is lt = absurd (omega (arith, is))
  drop_remove (suc n) k (suc m) (x ∷ xs) is lt = drop_remove n k m xs (omega (arith, is)) (omega arith)

  -- in each case: what the list was, and what contracts see of it
  module _ (room gone : ℕ) (list : List T) (seen : Items T) (view : ◌≡◌ {A = Items T} (record { room = room; items = drop gone list }) seen) where
    items_are : drop gone list ≡ seen.items
    items_are = ap (λ (it : Items T). it.items) view

    pub within : (place : ℕ) → place < length seen.items → gone + place < length list
    within place lt = omega (arith, lt, ap length items_are, length-drop gone list)

    becomes : (xs ys : List T) → xs ≡ ys → ◌≡◌ {A = Items T} (record { room = room; items = xs }) (record seen { items = ys })
    becomes xs ys same = same_items room xs ys same ∙ ap (λ (it : Items T). let new : Items T = record it { items = ys } in new) view

    pub set_in : (place : ℕ) (item : T) → ◌≡◌ {A = Items T} (record { room = room; items = drop gone (set list (gone + place) item) }) (record seen { items = set seen.items place item })
    set_in place item = becomes _ _ (drop-set-add gone list place item ∙ ap (λ (xs : List T). set xs place item) items_are)

    pub first_gone : gone < length list → ◌≡◌ {A = Items T} (record { room = room; items = drop (gone + 1) list }) (record seen { items = remove seen.items 0 })
    first_gone lt = becomes _ _ (ap (λ (n : ℕ). drop n list) (let e : gone + 1 ≡ suc gone = omega arith in e) ∙ drop_first gone list lt ∙ ap (λ (xs : List T). remove xs 0) items_are)

    pub other_gone : (place : ℕ) → gone + place < length list → ◌≡◌ {A = Items T} (record { room = room; items = drop gone (remove list (gone + place)) }) (record seen { items = remove seen.items place })
    other_gone place lt = becomes _ _ (drop_remove gone place (gone + place) list refl lt ∙ ap (λ (xs : List T). remove xs place) items_are)
