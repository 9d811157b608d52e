-- What a pass knows, where the history goes on and a view is set.
use Rattle.std.proofs.Common.{◌≡◌, ◌≢◌, ℕ, zero, suc, ◌<◌, ◌≤◌, List, [], ◌∷◌, length, set, sym, ap, ◌∙◌, subst, ⊎_elim, arith}
use mathlib.Core.Option.{some, some-ne-none}
use mathlib.Core.Logic.{dite}
use native.Mathlib.Decide.{ℕ_discrete}
use lib.ListN.{get_elem?}
use Rattle.atomic_table.proofs.Lists.{at_set, set_here, set_else}
use Rattle.lvm_vol.proofs.FrontsLemmas.{begins_further, none_fell_further}
use Rattle.lvm_vol.specs.Fronts.{own, IsPrefixOf, NoneFell}
use Rattle.lvm_vol.specs.Facts.{Fact}
use Rattle.lvm_turn.specs.Views.{Fixed, View, HoldsClient}
use Rattle.lvm_turn.specs.Rules.{Fits}

pub index_below : {A : Type 0} (l : List A) (i : ℕ) (a : A) → get_elem? l i ≡ some a → i < length l
index_below [] i a e = absurd (some-ne-none a (sym e))
index_below (x ∷ xs) zero a e = omega arith
index_below (x ∷ xs) (suc i) a e = let h = index_below xs i a e in omega arith

-- what holds of each view holds after one of them is set
pub after_set : (F : ℕ → View → Type 0) (views : List View) (id : ℕ) (w : View) → F id w → ((j : ℕ) (u : View) → j ≢ id → get_elem? views j ≡ some u → F j u)
    → (j : ℕ) (u : View) → get_elem? (set views id w) j ≡ some u → F j u
after_set F views id w mine others j u e = ⊎_elim
    (λ (x : (j ≡ id) × (w ≡ u)). subst (λ (y : ℕ × View). F y.0 y.1) (λ i. (sym x.0 i, x.1 i)) mine)
    (λ (x : (j ≢ id) × (get_elem? views j ≡ some u)). others j u x.0 x.1)
    (at_set views id j w u e)

-- the pass still fits where the history goes on without its clients
pub fits_on : (history history' : List Fact) (root : Fixed) (best best' : List ℕ) (turn turn' n : ℕ) (seat_of : ℕ → ℕ) (j : ℕ) (v : View)
    → IsPrefixOf history history' → NoneFell best best' → turn ≤ turn' → ((c : ℕ) → HoldsClient v.clients c → own c history' ≡ own c history)
    → Fits history root best turn n seat_of j v → Fits history' root best' turn' n seat_of j v
fits_on history history' root best best' turn turn' n seat_of j v grows rose later same f = record {
  front = begins_further v.front history history' f.front grows;
  also = begins_further v.also history history' f.also grows;
  counts = none_fell_further v.counts best best' f.counts rose;
  number = let h = f.number in omega arith;
  fixed = f.fixed;
  clients = λ c l owns. let k = f.clients c l owns in (k.0, k.1, k.2, same c (l, owns) ∙ k.3);
}

-- each client keeps its place where a view is set that has no fewer clients
pub still_placed : (views : List View) (id : ℕ) (v w : View) (seat_of : ℕ → ℕ) (c : ℕ) → get_elem? views id ≡ some v → (HoldsClient v.clients c → HoldsClient w.clients c)
    → (u : View) × (get_elem? views (seat_of c) ≡ some u) × HoldsClient u.clients c
    → (u : View) × (get_elem? (set views id w) (seat_of c) ≡ some u) × HoldsClient u.clients c
still_placed views id v w seat_of c at same p = dite (ℕ_discrete (seat_of c) id)
    (λ (e : seat_of c ≡ id).
    let here : get_elem? (set views id w) id ≡ some w = set_here views id w (index_below views id v at) in
    let both : some v ≡ some p.0 = sym at ∙ ap (λ k. get_elem? views k) (sym e) ∙ p.1 in
    let is : v ≡ p.0 = mathlib.Core.Option.some-injective v p.0 both in
    (w, ap (λ k. get_elem? (set views id w) k) e ∙ here, same (subst (λ (x : View). HoldsClient x.clients c) (sym is) p.2)))
    (λ ne. (p.0, set_else views id (seat_of c) w ne ∙ p.1, p.2))
