-- Two beginnings of one history.
use Rattle.std.proofs.Common.{◌≡◌, ℕ, ◌+◌, ◌<◌, ◌≤◌, ltb, max, Bool, true, false, List, [], ◌∷◌, ◌++◌, length, refl, sym, ap, ◌∙◌, subst, arith, length-append}
use Rattle.std.specs.Prelude.{if◌then◌else◌}
use borrow.Author.Tests.{ltb-false, ltb-true}
use Rattle.lvm_vol.specs.Fronts.{IsPrefixOf, NoneFell}
use Rattle.lvm_vol.specs.Facts.{Fact}
use Rattle.lvm_turn.specs.Views.{longer, greater}
use Rattle.lvm_vol.proofs.FrontsLemmas.{begins_itself}

module _ {X : Type 0} where
  abbrev tail : List X → List X
  tail [] = []
  tail (y ∷ ys) = ys

  abbrev head : X → List X → X
  head d [] = d
  head d (y ∷ ys) = y

  nil_cons : (x : X) (xs : List X) → [] ≡ x ∷ xs → ⊥
  nil_cons x xs e = cc

  -- of two beginnings of one list the shorter begins the longer
  pub nested : (a b l : List X) → IsPrefixOf a l → IsPrefixOf b l → length a ≤ length b → IsPrefixOf a b
  nested [] b l p q h = (b, refl)
  nested (x ∷ a) [] l p q h = absurd (omega arith)
  nested (x ∷ a) (y ∷ b) [] p q h = absurd (nil_cons x (a ++ p.0) p.1)
  nested (x ∷ a) (y ∷ b) (z ∷ l) p q h =
      let heads : x ≡ y = sym (ap (head z) p.1) ∙ ap (head z) q.1 in
      let t = nested a b l (p.0, ap tail p.1) (q.0, ap tail q.1) (omega arith) in
      (t.0, λ i. sym heads i ∷ t.1 i)

  pub longer_is : (F : List X → Type 0) (a b : List X) → (length b ≤ length a → F a) → (length a < length b → F b) → F (longer a b)
  longer_is F a b one other = pick (ltb (length a) (length b)) refl
    where
      pick : (t : Bool) → ltb (length a) (length b) ≡ t → F (if t then b else a)
      pick true is = other (ltb-true _ _ is)
      pick false is = let h = ltb-false _ _ is in one h

pub longer_begins : (a b l : List Fact) → IsPrefixOf a l → IsPrefixOf b l → IsPrefixOf (longer a b) l
longer_begins a b l p q = longer_is (λ x. IsPrefixOf x l) a b (λ _. p) (λ _. q)

pub one_begins_longer : (a b l : List Fact) → IsPrefixOf a l → IsPrefixOf b l → IsPrefixOf a (longer a b)
one_begins_longer a b l p q = longer_is (λ x. IsPrefixOf a x) a b (λ _. begins_itself a) (λ h. nested a b l p q (omega arith))

pub other_begins_longer : (a b l : List Fact) → IsPrefixOf a l → IsPrefixOf b l → IsPrefixOf b (longer a b)
other_begins_longer a b l p q = longer_is (λ x. IsPrefixOf b x) a b (λ h. nested b a l q p h) (λ _. begins_itself b)

pub longer_whole : (a b l : List Fact) → a ≡ l → IsPrefixOf b l → longer a b ≡ l
longer_whole a b l e q = longer_is (λ x. x ≡ l) a b (λ _. e) (λ h. absurd (
    let la : length a ≡ length l = ap length e in
    let lb : length l ≡ length b + length q.0 = ap length q.1 ∙ length-append b q.0 in
    omega arith))

pub greater_below : (xs ys zs : List ℕ) → NoneFell xs zs → NoneFell ys zs → NoneFell (greater xs ys) zs
greater_below [] ys zs p q = q
greater_below (x ∷ xs) [] zs p q = p
greater_below (x ∷ xs) (y ∷ ys) [] p q = p
greater_below (x ∷ xs) (y ∷ ys) (z ∷ zs) p q = let a = p.0 in let b = q.0 in (omega arith, greater_below xs ys zs p.1 q.1)

pub greater_whole : (xs ys zs : List ℕ) → xs ≡ zs → NoneFell ys zs → greater xs ys ≡ zs
greater_whole xs ys zs e q = whole xs ys (subst (λ l. NoneFell ys l) (sym e) q) ∙ e
  where
    whole : (xs ys : List ℕ) → NoneFell ys xs → greater xs ys ≡ xs
    whole [] [] h = refl
    whole [] (y ∷ ys) h = absurd h
    whole (x ∷ xs) [] h = refl
    whole (x ∷ xs) (y ∷ ys) h = let a = h.0 in let m : max x y ≡ x = omega arith in λ i. m i ∷ whole xs ys h.1 i
