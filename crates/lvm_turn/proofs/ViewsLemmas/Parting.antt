-- Passes are cut in two and made one.
use Rattle.std.proofs.Common.{◌≡◌, ◌≢◌, ℕ, zero, suc, ◌⊎◌, eqb, Bool, true, false, true≢false, cond, not, Option, List, [], ◌∷◌, ◌++◌, length, set, ◌<◌, ◌≤◌, refl, sym, ap, ◌∙◌, subst, ⊎_elim, inl, inr, arith, eq-eqb, ne_eqb, length-set}
use Rattle.std.specs.Prelude.{filter, ◌==◌}
use Rattle.std.proofs.lemmas.Bool.{not-true, eqb-true, both_ways}
use mathlib.Core.Option.{some, some-ne-none, some-injective}
use mathlib.Core.Logic.{dite}
use native.Mathlib.Decide.{ℕ_discrete}
use lib.ListN.{get_elem?}
use Rattle.atomic_table.specs.Table.{State, Splits, Joins}
use Rattle.atomic_table.proofs.Lists.{at_set, set_here, set_else, at_longer, at_last}
use Rattle.lvm_vol.specs.Fronts.{Told, own}
use Rattle.lvm_num.specs.Buffer.{Sector}
use Rattle.lvm_vol.specs.Facts.{Fact}
use Rattle.lvm_turn.specs.Views.{Fixed, Client, View, Owns, HoldsClient, without, only, without_client, with_client_alone, met, nobody}
use Rattle.lvm_turn.specs.Rules.{Fits, IsFree, TurnIsTaken, TurnRule}
use Rattle.lvm_turn.proofs.ViewsLemmas.Nested.{greater_below, greater_whole}
use Rattle.lvm_turn.proofs.RulesLemmas.Growing.{index_below, after_set}
use Rattle.lvm_turn.proofs.RulesLemmas.Rules.{over_views, still_taken}

-- a client's place, once it has moved
abbrev moved : (ℕ → ℕ) → ℕ → ℕ → ℕ → ℕ
moved seat_of client to c = cond (eqb c client) to (seat_of c)

moved_here : (seat_of : ℕ → ℕ) (client to c : ℕ) → c ≡ client → moved seat_of client to c ≡ to
moved_here seat_of client to c e = ap (λ b. cond b to (seat_of c)) (eq-eqb c client e)

moved_else : (seat_of : ℕ → ℕ) (client to c : ℕ) → c ≢ client → moved seat_of client to c ≡ seat_of c
moved_else seat_of client to c ne = ap (λ b. cond b to (seat_of c)) (ne_eqb c client ne)

module _ (p : Client → Bool) where
  kept_by : (x : Client) (xs ys : List Client) (c : ℕ) (l : List Fact) (b : Bool) → p x ≡ b → (Owns ys c l → Owns xs c l × ((y : Client) × (p y ≡ true) × (y.number ≡ c)))
      → Owns (cond b (x ∷ ys) ys) c l → Owns (x ∷ xs) c l × ((y : Client) × (p y ≡ true) × (y.number ≡ c))
  kept_by x xs ys c l true is rec h = ⊎_elim
      (λ (t : (x.number ≡ c) × (x.own ≡ l)). (inl t, (x, is, t.0)))
      (λ (t : Owns ys c l). let u = rec t in (inr u.0, u.1))
      h
  kept_by x xs ys c l false is rec h = let u = rec h in (inr u.0, u.1)

  -- who is among those that pass a test is among all
  kept_owns : (xs : List Client) (c : ℕ) (l : List Fact) → Owns (filter p xs) c l → Owns xs c l × ((y : Client) × (p y ≡ true) × (y.number ≡ c))
  kept_owns [] c l h = absurd h
  kept_owns (x ∷ xs) c l h = kept_by x xs (filter p xs) c l (p x) refl (kept_owns xs c l) h

  stays_by : (x : Client) (xs ys : List Client) (c : ℕ) (l : List Fact) (b : Bool) → p x ≡ b → (x.number ≡ c → p x ≡ true) → (Owns xs c l → Owns ys c l)
      → Owns (x ∷ xs) c l → Owns (cond b (x ∷ ys) ys) c l
  stays_by x xs ys c l true is passes rec h = ⊎_elim (λ (t : (x.number ≡ c) × (x.own ≡ l)). inl t) (λ (t : Owns xs c l). inr (rec t)) h
  stays_by x xs ys c l false is passes rec h = ⊎_elim (λ (t : (x.number ≡ c) × (x.own ≡ l)). absurd (both_ways (p x) is (passes t.0))) (λ (t : Owns xs c l). rec t) h

  stays_owns : (xs : List Client) (c : ℕ) (l : List Fact) → ((x : Client) → x.number ≡ c → p x ≡ true) → Owns xs c l → Owns (filter p xs) c l
  stays_owns [] c l passes h = h
  stays_owns (x ∷ xs) c l passes h = stays_by x xs (filter p xs) c l (p x) refl (passes x) (stays_owns xs c l passes) h

without_fewer : (xs : List Client) (k c : ℕ) (l : List Fact) → Owns (without k xs) c l → Owns xs c l × (c ≢ k)
without_fewer xs k c l h =
    let t = kept_owns (λ x. not (x.number == k)) xs c l h in
    (t.0, λ (e : c ≡ k). both_ways (t.1.0.number == k) (not-true _ t.1.1) (eq-eqb t.1.0.number k (t.1.2 ∙ e)))

without_keeps : (xs : List Client) (k c : ℕ) → HoldsClient xs c → c ≢ k → HoldsClient (without k xs) c
without_keeps xs k c h ne = (h.0, stays_owns (λ x. not (x.number == k)) xs c h.0 (λ x e. ap not (ne_eqb x.number k (λ same. ne (sym e ∙ same)))) h.1)

only_fewer : (xs : List Client) (k c : ℕ) (l : List Fact) → Owns (only k xs) c l → Owns xs c l × (c ≡ k)
only_fewer xs k c l h = let t = kept_owns (λ x. x.number == k) xs c l h in (t.0, sym t.1.2 ∙ eqb-true t.1.0.number k t.1.1)

only_keeps : (xs : List Client) (k c : ℕ) → HoldsClient xs c → c ≡ k → HoldsClient (only k xs) c
only_keeps xs k c h e = (h.0, stays_owns (λ x. x.number == k) xs c h.0 (λ x is. eq-eqb x.number k (is ∙ e)) h.1)

holds_left : (xs ys : List Client) (c : ℕ) (l : List Fact) → Owns xs c l → Owns (xs ++ ys) c l
holds_left [] ys c l h = absurd h
holds_left (x ∷ xs) ys c l h = ⊎_elim (λ (t : (x.number ≡ c) × (x.own ≡ l)). inl t) (λ (t : Owns xs c l). inr (holds_left xs ys c l t)) h

holds_right : (xs ys : List Client) (c : ℕ) (l : List Fact) → Owns ys c l → Owns (xs ++ ys) c l
holds_right [] ys c l h = h
holds_right (x ∷ xs) ys c l h = inr (holds_right xs ys c l h)

holds_either : (xs ys : List Client) (c : ℕ) (l : List Fact) → Owns (xs ++ ys) c l → Owns xs c l ⊎ Owns ys c l
holds_either [] ys c l h = inr h
holds_either (x ∷ xs) ys c l h = ⊎_elim
    (λ (t : (x.number ≡ c) × (x.own ≡ l)). inl (inl t))
    (λ (t : Owns (xs ++ ys) c l). ⊎_elim (λ (a : Owns xs c l). inl (inr a)) (λ (b : Owns ys c l). inr b) (holds_either xs ys c l t))
    h

-- what is at a place of a list with one more
at_end : {A : Type 0} (l : List A) (a b : A) (j : ℕ) → get_elem? (l ++ a ∷ []) j ≡ some b → (get_elem? l j ≡ some b) ⊎ ((j ≡ length l) × (a ≡ b))
at_end [] a b zero e = inr (refl, some-injective a b e)
at_end [] a b (suc j) e = absurd (some-ne-none b (sym e))
at_end (x ∷ xs) a b zero e = inl e
at_end (x ∷ xs) a b (suc j) e = ⊎_elim (λ h. inl h) (λ t. inr (ap suc t.0, t.1)) (at_end xs a b j e)

after_cut : (F : ℕ → View → Type 0) (views : List View) (id : ℕ) (left right : View) → F id left → F (length views) right
    → ((j : ℕ) (u : View) → j ≢ id → get_elem? views j ≡ some u → F j u) → (j : ℕ) (u : View) → get_elem? (set views id left ++ right ∷ []) j ≡ some u → F j u
after_cut F views id left right one other rest j u e = ⊎_elim
    (λ (h : get_elem? (set views id left) j ≡ some u). after_set F views id left one rest j u h)
    (λ (t : (j ≡ length (set views id left)) × (right ≡ u)). subst (λ (y : ℕ × View). F y.0 y.1) (λ i. (sym (t.0 ∙ length-set views id left) i, t.1 i)) other)
    (at_end (set views id left) right u j e)

-- what a pass knows fits other seats and other clients of its own, if these have their seats there
reseated : {history : List Fact} {root : Fixed} {best : List ℕ} {turn n : ℕ} {seat_of : ℕ → ℕ} {j : ℕ} (v : View) → Fits history root best turn n seat_of j v
    → (so : ℕ → ℕ) (k : ℕ) (clients : List Client) → ((c : ℕ) (l : List Fact) → Owns clients c l → (k ≡ so c) × (0 < c) × (c ≤ n) × (own c history ≡ l))
    → Fits history root best turn n so k (record v { clients = clients })
reseated v f so k clients its = record { front = f.front; also = f.also; counts = f.counts; number = f.number; fixed = f.fixed; clients = its }

module _ {V : Type 0} (tells : V → Told) (past : V → Option (List (List Sector))) (always : V → Type 0) (n : ℕ) (root : Fixed) where
  abbrev St : Type 0
  St = State (Option V) View

  abbrev Rule : St → Type 0
  Rule = TurnRule tells past always n root

  pub splits : (id : ℕ) (v : View) (client : ℕ) → v.inside ≡ false → HoldsClient v.clients client → Splits Rule id v (without_client client v) (with_client_alone client v)
  splits id v client outside holds s r at =
      let left = without_client client v in
      let right = with_client_alone client v in
      let f = r.each id v at in
      let to = length s.views in
      let so = moved r.seat_of client to in
      let new = set s.views id left ++ right ∷ [] in
      let there : (j : ℕ) (u : View) → j ≢ id → get_elem? s.views j ≡ some u → get_elem? new j ≡ some u =
      λ j u ne e. at_longer (set s.views id left) (right ∷ []) j u (set_else s.views id j left ne ∙ e) in
      over_views tells past always n root s r new so
      (after_cut (λ j u. Fits r.history root r.best r.turn n so j u) s.views id left right
      (reseated v f so id left.clients (λ c l h. let t = without_fewer v.clients client c l h in let k = f.clients c l t.0 in (k.0 ∙ sym (moved_else r.seat_of client to c t.1), k.1, k.2, k.3)))
      (reseated v f so to right.clients (λ c l h. let t = only_fewer v.clients client c l h in let k = f.clients c l t.0 in (sym (moved_here r.seat_of client to c t.1), k.1, k.2, k.3)))
      (λ j u ne e. let g = r.each j u e in reseated u g so j u.clients (λ c l h.
      let k = g.clients c l h in
      let other : c ≢ client = λ same. ne (k.0 ∙ ap r.seat_of same ∙ sym (f.clients client holds.0 holds.1).0) in
      (k.0 ∙ sym (moved_else r.seat_of client to c other), k.1, k.2, k.3))))
      (λ c low high. dite (ℕ_discrete c client)
      (λ (e : c ≡ client). (right, ap (λ k. get_elem? new k) (moved_here r.seat_of client to c e) ∙ at_last (set s.views id left) right to (length-set s.views id left), only_keeps v.clients client c (subst (HoldsClient v.clients) (sym e) holds) e))
      (λ (ne : c ≢ client).
      let p = r.placed c low high in
      dite (ℕ_discrete (r.seat_of c) id)
      (λ (e : r.seat_of c ≡ id).
      let is : v ≡ p.0 = some-injective v p.0 (sym at ∙ ap (λ k. get_elem? s.views k) (sym e) ∙ p.1) in (
        left,
        ap (λ k. get_elem? new k) (moved_else r.seat_of client to c ne ∙ e) ∙ at_longer (set s.views id left) (right ∷ []) id left (set_here s.views id left (index_below s.views id v at)),
        without_keeps v.clients client c (subst (λ (x : View). HoldsClient x.clients c) (sym is) p.2) ne,
      ))
      (λ apart. (p.0, ap (λ k. get_elem? new k) (moved_else r.seat_of client to c ne) ∙ there (r.seat_of c) p.0 apart p.1, p.2))))
      (⊎_elim
      (λ (free : IsFree tells past always r.history root r.best r.turn s). inl record {
        even = free.even;
        nobody_inside = after_cut (λ j u. u.inside ≡ false) s.views id left right outside outside (λ j u ne e. free.nobody_inside j u e);
        value = free.value;
        homes = free.homes;
        home = free.home;
      })
      (λ (taken : TurnIsTaken tells past always r.history r.best r.turn s).
      let apart : taken.seat ≢ id = λ e. both_ways v.inside outside
      (ap (λ (y : View). y.inside) (some-injective v taken.view (sym at ∙ ap (λ k. get_elem? s.views k) (sym e) ∙ taken.there)) ∙ taken.holder.inside) in
      inr record {
        odd = taken.odd;
        seat = taken.seat;
        view = taken.view;
        there = there taken.seat taken.view apart taken.there;
        holder = taken.holder;
        alone = after_cut (λ j u. u.inside ≡ true → j ≡ taken.seat) s.views id left right
            (λ i. absurd (both_ways v.inside outside i)) (λ i. absurd (both_ways v.inside outside i)) (λ j u ne e. taken.alone j u e);
        homes = taken.homes;
      })
      r.place)

  pub joins : (id : ℕ) (v : View) (other : ℕ) (u : View) → v.spent ≡ false → u.spent ≡ false → u.inside ≡ false → Joins Rule id v other u (met v u) nobody
  joins id v other u live live' outside s r at apart there' =
      let w = met v u in
      let mid = set s.views id w in
      let new = set mid other nobody in
      let there : get_elem? s.views other ≡ some u = sym (set_else s.views id other w apart) ∙ there' in
      let f = r.each id v at in
      let f' = r.each other u there in
      let so : ℕ → ℕ = λ c. cond (eqb (r.seat_of c) other) id (r.seat_of c) in
      let goes : (c : ℕ) → r.seat_of c ≡ other → so c ≡ id = λ c e. ap (λ b. cond b id (r.seat_of c)) (eq-eqb (r.seat_of c) other e) in
      let stays : (c : ℕ) → r.seat_of c ≢ other → so c ≡ r.seat_of c = λ c ne. ap (λ b. cond b id (r.seat_of c)) (ne_eqb (r.seat_of c) other ne) in
      let at_id : get_elem? new id ≡ some w = set_else mid other id nobody (λ e. apart (sym e)) ∙ set_here s.views id w (index_below s.views id v at) in
      let rest : (j : ℕ) (x : View) → j ≢ id → j ≢ other → get_elem? s.views j ≡ some x → get_elem? new j ≡ some x =
      λ j x ne ne' e. set_else mid other j nobody ne' ∙ set_else s.views id j w ne ∙ e in
      let each_new : (F : ℕ → View → Type 0) → F id w → F other nobody → ((j : ℕ) (x : View) → j ≢ id → j ≢ other → get_elem? s.views j ≡ some x → F j x)
      → (j : ℕ) (x : View) → get_elem? new j ≡ some x → F j x =
      λ F one two others. after_set F mid other nobody two (λ j x ne' e. ⊎_elim
      (λ (t : (j ≡ id) × (w ≡ x)). subst (λ (y : ℕ × View). F y.0 y.1) (λ i. (sym t.0 i, t.1 i)) one)
      (λ (t : (j ≢ id) × (get_elem? s.views j ≡ some x)). others j x t.0 ne' t.1)
      (at_set s.views id j w x e)) in
      over_views tells past always n root s r new so
      (each_new (λ j x. Fits r.history root r.best r.turn n so j x)
      (record {
        front = f.front;
        also = f'.front;
        counts = greater_below v.counts u.counts r.best f.counts f'.counts;
        number = let a = f.number in let b = f'.number in omega arith;
        fixed = f.fixed;
        clients = λ c l h. ⊎_elim
            (λ (mine : Owns v.clients c l). let k = f.clients c l mine in (k.0 ∙ sym (stays c (λ e. apart (sym e ∙ sym k.0))), k.1, k.2, k.3))
            (λ (theirs : Owns u.clients c l). let k = f'.clients c l theirs in (sym (goes c (sym k.0)), k.1, k.2, k.3))
            (holds_either v.clients u.clients c l h);
      })
      (record { front = (r.history, refl); also = (r.history, refl); counts = tt; number = omega arith; fixed = λ e. absurd (true≢false e); clients = λ c l h. absurd h })
      (λ j x ne ne' e. let g = r.each j x e in record {
        front = g.front;
        also = g.also;
        counts = g.counts;
        number = g.number;
        fixed = g.fixed;
        clients = λ c l h. let k = g.clients c l h in (k.0 ∙ sym (stays c (λ same. ne' (k.0 ∙ same))), k.1, k.2, k.3);
      }))
      (λ c low high.
      let p = r.placed c low high in
      dite (ℕ_discrete (r.seat_of c) other)
      (λ (e : r.seat_of c ≡ other).
      let is : u ≡ p.0 = some-injective u p.0 (sym there ∙ ap (λ k. get_elem? s.views k) (sym e) ∙ p.1) in
      let h : HoldsClient u.clients c = subst (λ (x : View). HoldsClient x.clients c) (sym is) p.2 in
      (w, ap (λ k. get_elem? new k) (goes c e) ∙ at_id, (h.0, holds_right v.clients u.clients c h.0 h.1)))
      (λ ne'. dite (ℕ_discrete (r.seat_of c) id)
      (λ (e : r.seat_of c ≡ id).
      let is : v ≡ p.0 = some-injective v p.0 (sym at ∙ ap (λ k. get_elem? s.views k) (sym e) ∙ p.1) in
      let h : HoldsClient v.clients c = subst (λ (x : View). HoldsClient x.clients c) (sym is) p.2 in
      (w, ap (λ k. get_elem? new k) (stays c ne' ∙ e) ∙ at_id, (h.0, holds_left v.clients u.clients c h.0 h.1)))
      (λ ne. (p.0, ap (λ k. get_elem? new k) (stays c ne') ∙ rest (r.seat_of c) p.0 ne ne' p.1, p.2))))
      (⊎_elim
      (λ (free : IsFree tells past always r.history root r.best r.turn s). inl record {
        even = free.even;
        nobody_inside = each_new (λ j x. x.inside ≡ false) (free.nobody_inside id v at) refl (λ j x ne ne' e. free.nobody_inside j x e);
        value = free.value;
        homes = free.homes;
        home = free.home;
      })
      (λ (taken : TurnIsTaken tells past always r.history r.best r.turn s).
      let apart' : taken.seat ≢ other = λ e. both_ways u.inside outside
      (ap (λ (y : View). y.inside) (some-injective u taken.view (sym there ∙ ap (λ k. get_elem? s.views k) (sym e) ∙ taken.there)) ∙ taken.holder.inside) in
      dite (ℕ_discrete taken.seat id)
      (λ (e : taken.seat ≡ id).
      inr (still_taken tells past always r.history r.best r.turn s taken s.words new id v w e at at_id refl
      (λ h. record {
        inside = h.inside;
        number = let a = h.number in let b = f'.number in omega arith;
        front = h.front;
        counts = greater_whole v.counts u.counts r.best h.counts f'.counts;
        client = (h.client.0, (h.client.1.0, holds_left v.clients u.clients h.client.0 h.client.1.0 h.client.1.1));
      })
      (each_new (λ j x. x.inside ≡ true → j ≡ id) (λ _. refl) (λ i. absurd (true≢false (sym i))) (λ j x ne ne' a i. taken.alone j x a i ∙ e))))
      (λ ne. inr record {
        odd = taken.odd;
        seat = taken.seat;
        view = taken.view;
        there = rest taken.seat taken.view ne apart' taken.there;
        holder = taken.holder;
        alone = each_new (λ j x. x.inside ≡ true → j ≡ taken.seat) (λ i. taken.alone id v at i) (λ i. absurd (true≢false (sym i))) (λ j x a b e i. taken.alone j x e i);
        homes = taken.homes;
      }))
      r.place)
