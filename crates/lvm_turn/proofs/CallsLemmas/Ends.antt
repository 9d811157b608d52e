-- How a turn begins and ends.
use Rattle.std.proofs.Common.{◌≡◌, ℕ, zero, suc, ◌<◌, ◌≤◌, true, false, Option, Some, None, List, [], ◌∷◌, refl, sym, ap, ◌∙◌, subst, ⊎_elim, inl, inr, arith, replicate}
use Rattle.std.proofs.lemmas.Bool.{both_ways}
use mathlib.Core.Option.{some, some-ne-none, some-injective}
use mathlib.Core.Logic.{dite}
use native.Mathlib.Decide.{ℕ_discrete}
use lib.ListN.{get_elem?}
use Rattle.atomic_table.specs.Table.{opening, Final, Seen}
use Rattle.lvm_vol.specs.Fronts.{Told}
use Rattle.lvm_num.specs.Buffer.{Sector}
use Rattle.lvm_vol.specs.Facts.{Fact}
use Rattle.lvm_turn.specs.Views.{HoldsAll, opener, Fixed, View, Owns, HoldsClient, up_to}
use Rattle.lvm_turn.specs.Rules.{fixed_of, Fits, IsFree, TurnIsTaken, TurnRule}
use Rattle.lvm_turn.specs.Calls.{Continues, MayPut}
use Rattle.lvm_turn.proofs.StepsLemmas.{continues}

in_range : (n c : ℕ) (l : List Fact) → Owns (up_to n) c l → (0 < c) × (c ≤ n) × (l ≡ [])
in_range zero c l h = absurd h
in_range (suc n) c l h = ⊎_elim
    (λ (t : (suc n ≡ c) × ([] ≡ l)). let e = t.0 in (omega arith, omega arith, sym t.1))
    (λ (t : Owns (up_to n) c l). let u = in_range n c l t in let low = u.0 in let high = u.1 in (omega arith, omega arith, u.2))
    h

pub all_there : (n c : ℕ) → 0 < c → c ≤ n → HoldsClient (up_to n) c
all_there zero c low high = absurd (omega arith)
all_there (suc n) c low high = dite (ℕ_discrete (suc n) c) (λ (e : suc n ≡ c). ([], inl (e, refl))) (λ ne. let t = all_there n c low (omega arith) in (t.0, inr t.1))

module _ {V : Type 0} (tells : V → Told) (past : V → Option (List (List Sector))) (always : V → Type 0) (n : ℕ) (root : Fixed) where
  pub opens : 0 < n → TurnRule tells past always n root (opening (1 ∷ 0 ∷ []) (replicate 1 None) (opener n root))
  opens some_clients = record {
    history = [];
    best = [];
    turn = 1;
    seat_of = λ c. 0;
    words = refl;
    low = omega arith;
    each = only (λ j v. Fits [] root [] 1 n (λ c. 0) j v)
        (record { front = ([], refl); also = ([], refl); counts = tt; number = omega arith; fixed = λ _. refl; clients = λ c l h. let t = in_range n c l h in (refl, t.0, t.1, sym t.2) });
    placed = λ c low high. (opener n root, refl, all_there n c low high);
    place = inr record {
      odd = refl;
      seat = 0;
      view = opener n root;
      there = refl;
      holder = record { inside = refl; number = refl; front = refl; counts = refl; client = (n, all_there n n some_clients (omega arith)) };
      alone = only (λ j v. v.inside ≡ true → j ≡ 0) (λ _. refl);
      homes = refl;
    };
  }
    where
      only : (F : ℕ → View → Type 0) → F 0 (opener n root) → (j : ℕ) (v : View) → get_elem? (opener n root ∷ []) j ≡ some v → F j v
      only F one zero v e = subst (λ u. F 0 u) (some-injective _ _ e) one
      only F one (suc j) v e = absurd (some-ne-none v (sym e))

  -- the first pass may put any value
  pub first_puts : (k : ℕ) (v : View) (y : V) → k ≡ n → v ≡ opener n root → fixed_of tells past y ≡ root → always y → MayPut tells past always k v y
  first_puts k v y k_is is fixed_is holds = subst (λ u. MayPut tells past always k u y) (sym is) record {
    front = ((tells y).entries, refl);
    own_only = λ c low high absent. absurd (absent (all_there n c low (subst (λ m. c ≤ m) k_is high)));
    fixed_same = fixed_is;
    none_fell = tt;
    always_holds = holds;
  }

  -- where a pass that is outside holds all clients, the value is at home
  closes : (id : ℕ) (v : View) (ws : List ℕ) (xs : List (Option V)) → v.inside ≡ false → v.spent ≡ false → HoldsAll n v.clients
      → Final (Seen (TurnRule tells past always n root) id v) ws xs → (y : V) × (get_elem? xs 0 ≡ some (Some y)) × Continues tells past always v y
  closes id v ws xs outside live all end =
      let s = end.0 in
      let r = end.1.0 in
      let at = end.1.1 in
      ⊎_elim
      (λ (free : IsFree tells past always r.history root r.best r.turn s).
      (free.value, end.4 0 (Some free.value) (ap (λ hs. get_elem? hs 0) free.homes), continues tells past always n root s r id v free.value live at free.home))
      (λ (taken : TurnIsTaken tells past always r.history r.best r.turn s).
      let c = taken.holder.client.0 in
      let h = taken.holder.client.1 in
      let k = (r.each taken.seat taken.view taken.there).clients c h.0 h.1 in
      let mine = all c k.1 k.2 in
      let m = (r.each id v at).clients c mine.0 mine.1 in
      let same : id ≡ taken.seat = m.0 ∙ sym k.0 in
      let view : v ≡ taken.view = some-injective v taken.view (sym at ∙ ap (λ j. get_elem? s.views j) same ∙ taken.there) in
      absurd (both_ways v.inside outside (ap (λ (u : View). u.inside) view ∙ taken.holder.inside)))
      r.place

  -- so by what a pass is known to know
  pub closes_as : (id : ℕ) (v knows : View) (ws : List ℕ) (xs : List (Option V)) → v ≡ knows → knows.inside ≡ false → v.spent ≡ false → HoldsAll n knows.clients
      → Final (Seen (TurnRule tells past always n root) id v) ws xs → (y : V) × (get_elem? xs 0 ≡ some (Some y)) × Continues tells past always knows y
  closes_as id v knows ws xs same outside live all end =
      subst (λ (w : View). (y : V) × (get_elem? xs 0 ≡ some (Some y)) × Continues tells past always w y) same
      (closes id v ws xs (ap (λ (w : View). w.inside) same ∙ outside) live (subst (λ (w : View). HoldsAll n w.clients) (sym same) all) end)
