-- How histories and counts grow, and whose the entries are that were added.
use Rattle.std.proofs.Common.{◌≡◌, ℕ, List, [], ◌∷◌, ◌++◌, sym, ap, ◌∙◌, arith}
use mathlib.Core.List.{append_assoc, append-nil}
use Rattle.std.proofs.lemmas.List.Elements.{filter-append}
use Rattle.lvm_vol.specs.Facts.{Fact}
use Rattle.lvm_vol.specs.Fronts.{is_own, own, IsPrefixOf, NoneFell}

module _ {X : Type 0} where
  pub begins_itself : (xs : List X) → IsPrefixOf xs xs
  begins_itself xs = ([], sym (append-nil xs))

  pub begins_further : (xs ys zs : List X) → IsPrefixOf xs ys → IsPrefixOf ys zs → IsPrefixOf xs zs
  begins_further xs ys zs a b = (a.0 ++ b.0, b.1 ∙ ap (λ l. l ++ b.0) a.1 ∙ append_assoc xs a.0 b.0)

pub none_fell : (xs : List ℕ) → NoneFell xs xs
none_fell [] = tt
none_fell (x ∷ xs) = (omega arith, none_fell xs)

pub none_fell_further : (xs ys zs : List ℕ) → NoneFell xs ys → NoneFell ys zs → NoneFell xs zs
none_fell_further [] ys zs a b = tt
none_fell_further (x ∷ xs) [] zs a b = absurd a
none_fell_further (x ∷ xs) (y ∷ ys) [] a b = absurd b
none_fell_further (x ∷ xs) (y ∷ ys) (z ∷ zs) a b = let p = a.0 in let q = b.0 in (omega arith, none_fell_further xs ys zs a.1 b.1)

pub own-append : (client : ℕ) (xs ys : List Fact) → own client (xs ++ ys) ≡ own client xs ++ own client ys
own-append client xs ys = filter-append (is_own client) xs ys
