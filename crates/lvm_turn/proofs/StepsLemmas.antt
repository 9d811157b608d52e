-- Each step keeps the rule of the turn.
use Rattle.std.proofs.Common.{◌≡◌, ◌≢◌, ℕ, ◌+◌, ◌%◌, ◌^◌, ◌<◌, ◌≤◌, Bool, true, false, Option, Some, None, List, [], ◌∷◌, length, set, refl, sym, ap, ◌∙◌, subst, ⊎_elim, inl, inr, arith, eq-eqb}
use Rattle.std.specs.Prelude.{if◌then◌else◌, slice_index, slice_set, ◌==◌}
use mathlib.Core.Option.{some, none, some-ne-none, some-injective}
use mathlib.Core.Option as maybe
use mathlib.Core.Logic.{dite}
use native.Mathlib.Decide.{ℕ_discrete}
use lib.ListN.{get_elem?}
use prog.Atomic.{either}
use Rattle.std.specs.Option.{unwrap_or}
use Rattle.std.proofs.lemmas.Bool.{false_from_ne_true, both_ways}
use Rattle.atomic_table.specs.Table.{State, Me, step, Act, keeps, takes, gives, stepped, Valid, carried_after, Allows}
use Rattle.atomic_table.proofs.Lists.{at_set, set_here, set_else, exchanged}
use Rattle.lvm_vol.specs.Fronts.{Told, own, IsPrefixOf, NoneFell}
use Rattle.lvm_num.specs.Buffer.{Sector}
use Rattle.lvm_vol.specs.Facts.{Fact}
use Rattle.lvm_turn.specs.Views.{reads, enters, Fixed, Client, View, Owns, HoldsClient, renewed, settled}
use Rattle.lvm_turn.specs.Rules.{fixed_of, Fits, IsInside, IsHome, IsFree, TurnIsTaken, TurnRule}
use Rattle.lvm_turn.specs.Calls.{Continues}
use Rattle.lvm_turn.specs.Steps.{IsOutsidePass, looked, tried, stowed, told, compared, released}
use Rattle.lvm_turn.proofs.ViewsLemmas.Nested.{longer_begins, longer_whole, one_begins_longer, other_begins_longer}
use Rattle.lvm_vol.proofs.FrontsLemmas.{begins_itself, begins_further, none_fell}
use Rattle.lvm_turn.proofs.RulesLemmas.Growing.{index_below, after_set, fits_on, still_placed}
use Rattle.lvm_turn.proofs.RulesLemmas.Rules.{still_taken}

renewed_holds : (history : List Fact) (xs : List Client) (c : ℕ) (l : List Fact) → Owns xs c l → HoldsClient (renewed history xs) c
renewed_holds history [] c l h = absurd h
renewed_holds history (x ∷ xs) c l h = ⊎_elim
    (λ (t : (x.number ≡ c) × (x.own ≡ l)). (own x.number history, inl (t.0, refl)))
    (λ (t : Owns xs c l). let u = renewed_holds history xs c l t in (u.0, inr u.1))
    h

renewed_owns : (history : List Fact) (xs : List Client) (c : ℕ) (l : List Fact) → Owns (renewed history xs) c l → HoldsClient xs c × (own c history ≡ l)
renewed_owns history [] c l h = absurd h
renewed_owns history (x ∷ xs) c l h = ⊎_elim
    (λ (t : (x.number ≡ c) × (own x.number history ≡ l)). ((x.own, inl (t.0, refl)), ap (λ k. own k history) (sym t.0) ∙ t.1))
    (λ (t : Owns (renewed history xs) c l). let u = renewed_owns history xs c l t in ((u.0.0, inr u.0.1), u.1))
    h

module _ {V : Type 0} (tells : V → Told) (past : V → Option (List (List Sector))) (always : V → Type 0) (n : ℕ) (root : Fixed) where
  abbrev St : Type 0
  St = State (Option V) View

  abbrev Rule : St → Type 0
  Rule = TurnRule tells past always n root

  word_is : (s : St) (r : Rule s) → slice_index s.words 0 ≡ r.turn
  word_is s r = ap (λ ws. slice_index ws 0) r.words

  -- the pass only reads word 0
  reads_on : (s : St) (r : Rule s) (id : ℕ) (v : View) → IsOutsidePass v → get_elem? s.views id ≡ some v
      → Rule record { words = slice_set s.words 0 (slice_index s.words 0); homes = s.homes; views = slice_set s.views id (reads (slice_index s.words 0) v) }
  reads_on s r id v out at =
      let t = word_is s r in
      let w : View = reads (slice_index s.words 0) v in
      let f = r.each id v at in
      let quiet : (j : ℕ) (u : View) → get_elem? (set s.views id w) j ≡ some u → u.inside ≡ true → (j ≢ id) × (get_elem? s.views j ≡ some u) =
      λ j u e is. ⊎_elim
      (λ (x : (j ≡ id) × (w ≡ u)). absurd (both_ways u.inside (sym (ap (λ (y : View). y.inside) x.1) ∙ out.outside) is))
      (λ (x : (j ≢ id) × (get_elem? s.views j ≡ some u)). x)
      (at_set s.views id j w u e) in
      record {
        history = r.history;
        best = r.best;
        turn = r.turn;
        seat_of = r.seat_of;
        words = ap (λ ws. slice_set ws 0 (slice_index s.words 0)) r.words ∙ ap (λ (k : ℕ). k ∷ length r.history ∷ []) t;
        low = r.low;
        each = after_set (λ j u. Fits r.history root r.best r.turn n r.seat_of j u) s.views id w
            (record { front = f.front; also = f.also; counts = f.counts; number = omega arith; fixed = f.fixed; clients = f.clients })
            (λ j u ne e. r.each j u e);
        placed = λ c low high. still_placed s.views id v w r.seat_of c at (λ h. h) (r.placed c low high);
        place = ⊎_elim
            (λ (free : IsFree tells past always r.history root r.best r.turn s). inl record {
              even = free.even;
              nobody_inside = after_set (λ j u. u.inside ≡ false) s.views id w out.outside (λ j u ne e. free.nobody_inside j u e);
              value = free.value;
              homes = free.homes;
              home = free.home;
            })
            (λ (taken : TurnIsTaken tells past always r.history r.best r.turn s).
            let apart : taken.seat ≢ id = λ e. both_ways v.inside out.outside
            (ap (λ (y : View). y.inside) (some-injective v taken.view (sym at ∙ ap (λ k. get_elem? s.views k) (sym e) ∙ taken.there)) ∙ taken.holder.inside) in
            inr record {
              odd = taken.odd;
              seat = taken.seat;
              view = taken.view;
              there = set_else s.views id taken.seat w apart ∙ taken.there;
              holder = taken.holder;
              alone = λ j u e is. taken.alone j u (quiet j u e is).1 is;
              homes = taken.homes;
            })
            r.place;
      }

  pub looks : (slots id : ℕ) (me : Me (Option V) View) → IsOutsidePass me.0 → Allows Rule slots id me 0 (λ x. x) (looked tells past always (step slots 0 0 0 none) me)
  looks slots id me out s r len at lt =
      let t = word_is s r in
      let f = (r.each id me.0 at).number in
      let l = r.low in
      (reads (slice_index s.words 0) me.0, keeps, tt, reads_on s r id me.0 out at, (omega arith, omega arith, refl))

  -- the pass takes the turn and the slot
  wins : (s : St) (r : Rule s) (free : IsFree tells past always r.history root r.best r.turn s) (id : ℕ) (v : View) (even : ℕ)
      → IsOutsidePass v → get_elem? s.views id ≡ some v → r.turn ≡ even → even + 2 < 2 ^ 64
      → let w : View = record (enters (tells free.value) (even + 1) v) { hand = true } in
      Rule record { words = slice_set s.words 0 (even + 1); homes = slice_set s.homes 0 none; views = slice_set s.views id w }
  wins s r free id v even out at is low =
      let y = free.value in
      let w : View = record (enters (tells y) (even + 1) v) { hand = true } in
      let f = r.each id v at in
      let is_even = free.even in
      record {
        history = r.history;
        best = r.best;
        turn = even + 1;
        seat_of = r.seat_of;
        words = ap (λ ws. slice_set ws 0 (even + 1)) r.words;
        low = omega arith;
        each = after_set (λ j u. Fits r.history root r.best (even + 1) n r.seat_of j u) s.views id w
            (record {
              front = subst (λ l. IsPrefixOf l r.history) (sym free.home.entries_are) (begins_itself r.history);
              also = f.also;
              counts = subst (λ l. NoneFell l r.best) (sym free.home.counts_are) (none_fell r.best);
              number = omega arith;
              fixed = f.fixed;
              clients = f.clients;
            })
            (λ j u ne e. fits_on r.history r.history root r.best r.best r.turn (even + 1) n r.seat_of j u (begins_itself r.history) (none_fell r.best) (omega arith) (λ c h. refl) (r.each j u e));
        placed = λ c low high. still_placed s.views id v w r.seat_of c at (λ h. h) (r.placed c low high);
        place = inr record {
          odd = omega arith;
          seat = id;
          view = w;
          there = set_here s.views id w (index_below s.views id v at);
          holder = record { inside = refl; number = refl; front = free.home.entries_are; counts = free.home.counts_are; client = out.client };
          alone = λ j u e inside. ⊎_elim
              (λ (x : (j ≡ id) × (w ≡ u)). x.0)
              (λ (x : (j ≢ id) × (get_elem? s.views j ≡ some u)). absurd (both_ways u.inside (free.nobody_inside j u x.1) inside))
              (at_set s.views id j w u e);
          homes = ap (λ hs. slice_set hs 0 none) free.homes;
        };
      }

  pub continues : (s : St) (r : Rule s) (id : ℕ) (v : View) (y : V) → v.spent ≡ false → get_elem? s.views id ≡ some v → IsHome tells past always r.history root r.best y → Continues tells past always v y
  continues s r id v y live at home =
      let f = r.each id v at in
      record {
        front = subst (λ l. IsPrefixOf v.front l) (sym home.entries_are) f.front;
        own_entries = λ c l h. ap (own c) home.entries_are ∙ (f.clients c l h).3;
        fixed_same = home.fixed_are ∙ sym (f.fixed live);
        none_fell = subst (λ l. NoneFell v.counts l) (sym home.counts_are) f.counts;
        always_holds = home.always_holds;
      }

  pub tries : (slots id : ℕ) (me : Me (Option V) View) (even : ℕ) → IsOutsidePass me.0 → even % 2 ≡ 0 → even + 2 < 2 ^ 64
      → Allows Rule slots id me 0 (λ x. either (x == even) (even + 1) x) (tried tells past always (step slots 0 even (even + 1) none) me)
  tries slots id me even out is_even small s r len at lt =
      let t = word_is s r in
      let found = slice_index s.words 0 in
      let f = (r.each id me.0 at).number in
      let l = r.low in
      exchanged found even (even + 1)
      (λ m. (w : View) × (a : Act (Option V)) × Valid s.homes me.1 a × Rule (stepped s 0 m id me.1 w a) × tried tells past always (step slots 0 even (even + 1) none) me found (w, carried_after me.1 a))
      (λ e. ⊎_elim
      (λ (free : IsFree tells past always r.history root r.best r.turn s).
      let y = free.value in (
        record (enters (tells y) (even + 1) me.0) { hand = true },
        takes 0 (Some y),
        ap (λ hs. get_elem? hs 0) free.homes,
        wins s r free id me.0 even out at (sym t ∙ e) small,
        (
          omega arith,
          omega arith,
          λ _. (y, ap (λ (k : ℕ). (let w : View = record (enters (tells y) (k + 1) me.0) { hand = true } in (w, (0, Some y) ∷ me.1))) (sym e), continues s r id me.0 y out.live at free.home),
          λ ne. absurd (ne e),
        ),
      ))
      (λ (taken : TurnIsTaken tells past always r.history r.best r.turn s). let o = taken.odd in absurd (omega arith))
      r.place)
      (λ ne. (reads found me.0, keeps, tt, reads_on s r id me.0 out at, (omega arith, omega arith, (λ e. absurd (ne e)), (λ _. refl))))

  -- what the rule says where the pass of this seat is inside
  record Held (s : St) (r : Rule s) (id : ℕ) (v : View) : Type 0 where
    odd : r.turn % 2 ≡ 1
    holder : IsInside r.history r.best r.turn v
    alone : (j : ℕ) (u : View) → get_elem? s.views j ≡ some u → u.inside ≡ true → j ≡ id
    homes : s.homes ≡ (if v.hand then none else some None) ∷ []

  held : (s : St) (r : Rule s) (id : ℕ) (v : View) → v.inside ≡ true → get_elem? s.views id ≡ some v → Held s r id v
  held s r id v inside at = ⊎_elim
      (λ (free : IsFree tells past always r.history root r.best r.turn s). absurd (both_ways v.inside (free.nobody_inside id v at) inside))
      (λ (taken : TurnIsTaken tells past always r.history r.best r.turn s).
      let here : id ≡ taken.seat = taken.alone id v at inside in
      let same : taken.view ≡ v = some-injective taken.view v (sym taken.there ∙ ap (λ k. get_elem? s.views k) (sym here) ∙ at) in
      record {
        odd = taken.odd;
        holder = subst (λ u. IsInside r.history r.best r.turn u) same taken.holder;
        alone = λ j u e i. taken.alone j u e i ∙ sym here;
        homes = taken.homes ∙ ap (λ (u : View). (if u.hand then none else some None) ∷ []) same;
      })
      r.place

  -- who is inside may tell a history that goes on without the others' clients
  tells_on : (s : St) (r : Rule s) (id : ℕ) (v : View) (clients : List Client) (front : List Fact) (best : List ℕ) (hand : Bool) (words : List ℕ) (homes : List (maybe.Option (Option V)))
      → v.inside ≡ true → get_elem? s.views id ≡ some v → IsPrefixOf v.front front → NoneFell v.counts best
      → ((c : ℕ) → HoldsClient v.clients c → HoldsClient clients c) → ((c : ℕ) (l : List Fact) → Owns clients c l → HoldsClient v.clients c × (own c front ≡ l))
      → ((c : ℕ) → 0 < c → c ≤ n → ¬ HoldsClient v.clients c → own c front ≡ own c v.front)
      → words ≡ r.turn ∷ length front ∷ [] → homes ≡ (if hand then none else some None) ∷ []
      → Rule record { words = words; homes = homes; views = set s.views id (record v { clients = clients; front = front; counts = best; hand = hand }) }
  tells_on s r id v clients front best hand words homes inside at grows rose no_fewer owned own_only words_are homes_are =
      let w : View = record v { clients = clients; front = front; counts = best; hand = hand } in
      let f = r.each id v at in
      let h = held s r id v inside at in
      let grew : IsPrefixOf r.history front = subst (λ l. IsPrefixOf l front) h.holder.front grows in
      let rise : NoneFell r.best best = subst (λ l. NoneFell l best) h.holder.counts rose in
      record {
        history = front;
        best = best;
        turn = r.turn;
        seat_of = r.seat_of;
        words = words_are;
        low = r.low;
        each = after_set (λ j u. Fits front root best r.turn n r.seat_of j u) s.views id w
            (record {
              front = begins_itself front;
              also = begins_further v.also r.history front f.also grew;
              counts = none_fell best;
              number = f.number;
              fixed = f.fixed;
              clients = λ c l owns. let o = owned c l owns in let k = f.clients c o.0.0 o.0.1 in (k.0, k.1, k.2, o.1);
            })
            (λ j u ne e. fits_on r.history front root r.best best r.turn r.turn n r.seat_of j u grew rise (omega arith)
            (λ c holds.
            let k = (r.each j u e).clients c holds.0 holds.1 in
            own_only c k.1 k.2 (λ mine. ne (k.0 ∙ sym (f.clients c mine.0 mine.1).0)) ∙ ap (own c) h.holder.front)
            (r.each j u e));
        placed = λ c low high. still_placed s.views id v w r.seat_of c at (no_fewer c) (r.placed c low high);
        place = inr record {
          odd = h.odd;
          seat = id;
          view = w;
          there = set_here s.views id w (index_below s.views id v at);
          holder = record { inside = inside; number = h.holder.number; front = refl; counts = refl; client = (h.holder.client.0, no_fewer h.holder.client.0 h.holder.client.1) };
          alone = λ j u e i. ⊎_elim
              (λ (x : (j ≡ id) × (w ≡ u)). x.0)
              (λ (x : (j ≢ id) × (get_elem? s.views j ≡ some u)). h.alone j u x.1 i)
              (at_set s.views id j w u e);
          homes = homes_are;
        };
      }

  stows_at : (slots id : ℕ) (v : View) → v.inside ≡ true → Allows Rule slots id (v, (0, None) ∷ []) 0 (λ x. x) (stowed tells past always (step slots 0 0 0 none) (v, (0, None) ∷ []))
  stows_at slots id v inside s r len at lt =
      let h = held s r id v inside at in (
        record v { hand = false },
        gives,
        tt,
        tells_on s r id v v.clients v.front v.counts false _ _ inside at (begins_itself v.front) (none_fell v.counts) (λ c holds. holds)
            (λ c l owns. ((l, owns), ap (own c) h.holder.front ∙ ((r.each id v at).clients c l owns).3)) (λ c low high absent. refl)
            (ap (λ ws. slice_set ws 0 (slice_index ws 0)) r.words ∙ ap (λ l. r.turn ∷ length l ∷ []) (sym h.holder.front))
            (ap (λ hs. slice_set hs 0 (some None)) h.homes),
        refl,
      )

  pub stows : (slots id : ℕ) (me : Me (Option V) View) → me.0.inside ≡ true → me.1 ≡ (0, None) ∷ [] → Allows Rule slots id me 0 (λ x. x) (stowed tells past always (step slots 0 0 0 none) me)
  stows slots id me inside empty = subst (λ (l : List (ℕ × Option V)). Allows Rule slots id (me.0, l) 0 (λ x. x) (stowed tells past always (step slots 0 0 0 none) (me.0, l))) (sym empty) (stows_at slots id me.0 inside)

  -- The pass takes the slot, and tells the length of the history that it leaves
  pub tells_length : (slots id : ℕ) (me : Me (Option V) View) (old new : ℕ) (y : V) → me.0.inside ≡ true → me.0.hand ≡ false → me.1 ≡ []
      → IsPrefixOf me.0.front (tells y).entries → NoneFell me.0.counts (tells y).counts → ((c : ℕ) → 0 < c → c ≤ n → ¬ HoldsClient me.0.clients c → own c (tells y).entries ≡ own c me.0.front)
      → old ≡ length me.0.front → new ≡ length (tells y).entries
      → Allows Rule slots id me 1 (λ x. either (x == old) new x) (told tells past always (step slots 1 old new (some (Some y))) me)
  tells_length slots id me old new y inside hand empty grows rose own_only old_is new_is s r len at lt =
      let h = held s r id me.0 inside at in
      let homes : s.homes ≡ some None ∷ [] = h.homes ∙ ap (λ b. (if b then none else some None) ∷ []) hand in
      let word : slice_index s.words 1 ≡ old = ap (λ ws. slice_index ws 1) r.words ∙ ap length (sym h.holder.front) ∙ sym old_is in
      let f : either (slice_index s.words 1 == old) new (slice_index s.words 1) ≡ length (tells y).entries = ap (λ b. either b new (slice_index s.words 1)) (eq-eqb _ _ word) ∙ new_is in (
        record me.0 { clients = renewed (tells y).entries me.0.clients; front = (tells y).entries; counts = (tells y).counts; hand = true },
        takes 0 None,
        ap (λ hs. get_elem? hs 0) homes,
        tells_on s r id me.0 (renewed (tells y).entries me.0.clients) (tells y).entries (tells y).counts true _ _ inside at grows rose
            (λ c holds. renewed_holds (tells y).entries me.0.clients c holds.0 holds.1) (λ c l owns. renewed_owns (tells y).entries me.0.clients c l owns) own_only
            (ap (λ ws. slice_set ws 1 (either (slice_index s.words 1 == old) new (slice_index s.words 1))) r.words ∙ ap (λ (k : ℕ). r.turn ∷ k ∷ []) f)
            (ap (λ hs. slice_set hs 0 none) homes),
        (λ z said. told_same y z (some-injective _ _ said) me empty),
      )
    where
      told_same : (y z : V) → Some y ≡ Some z → (me : Me (Option V) View) → me.1 ≡ [] → (let w : View = record me.0 { clients = renewed (tells y).entries me.0.clients; front = (tells y).entries; counts = (tells y).counts; hand = true } in ◌≡◌ {A = Me (Option V) View} (w, (0, None) ∷ me.1) (record me.0 { clients = renewed (tells z).entries me.0.clients; front = (tells z).entries; counts = (tells z).counts; hand = true }, (0, None) ∷ []))
      told_same y z said me empty = let same : y ≡ z = ap (λ o. unwrap_or o y) said in λ i. (record me.0 { clients = renewed (tells (same i)).entries me.0.clients; front = (tells (same i)).entries; counts = (tells (same i)).counts; hand = true }, (0, None) ∷ empty i)

  releases_at : (slots id : ℕ) (v : View) (new : ℕ) (y : V) → v.inside ≡ true → new ≡ v.number + 1 → (tells y).entries ≡ v.front → (tells y).counts ≡ v.counts → fixed_of tells past y ≡ v.fixed → v.spent ≡ false → always y
      → Allows Rule slots id (v, (0, Some y) ∷ []) 0 (λ _. new) (λ _. released tells past always (step slots 0 new 0 none) (v, (0, Some y) ∷ []) new)
  releases_at slots id v new y inside new_is front counts_are fixed_are live holds s r len at lt =
      let w : View = record v { number = v.number + 1; inside = false; hand = false } in
      let h = held s r id v inside at in
      let f = r.each id v at in
      let odd = h.odd in
      let low = r.low in
      let number = h.holder.number in
      let outside : (j : ℕ) (u : View) → get_elem? (set s.views id w) j ≡ some u → u.inside ≡ false =
      after_set (λ j u. u.inside ≡ false) s.views id w refl (λ j u ne e. false_from_ne_true u.inside (λ i. ne (h.alone j u e i))) in (
        w,
        gives,
        tt,
        record {
          history = r.history;
          best = r.best;
          turn = new;
          seat_of = r.seat_of;
          words = ap (λ ws. slice_set ws 0 new) r.words;
          low = omega arith;
          each = after_set (λ j u. Fits r.history root r.best new n r.seat_of j u) s.views id w
              (record { front = f.front; also = f.also; counts = f.counts; number = omega arith; fixed = f.fixed; clients = f.clients })
              (λ j u ne e. fits_on r.history r.history root r.best r.best r.turn new n r.seat_of j u (begins_itself r.history) (none_fell r.best) (omega arith) (λ c hold. refl) (r.each j u e));
          placed = λ c lo hi. still_placed s.views id v w r.seat_of c at (λ h. h) (r.placed c lo hi);
          place = inl record {
            even = omega arith;
            nobody_inside = outside;
            value = y;
            homes = ap (λ hs. slice_set hs 0 (some (Some y))) h.homes;
            home = record { entries_are = front ∙ h.holder.front; fixed_are = fixed_are ∙ f.fixed live; counts_are = counts_are ∙ h.holder.counts; always_holds = holds };
          };
        },
        (omega arith, refl),
      )

  -- the pass gives the slot back with the value, and goes outside
  pub releases : (slots id : ℕ) (me : Me (Option V) View) (new : ℕ) (y : V) → me.1 ≡ (0, Some y) ∷ [] → me.0.inside ≡ true → new ≡ me.0.number + 1
      → (tells y).entries ≡ me.0.front → (tells y).counts ≡ me.0.counts → fixed_of tells past y ≡ me.0.fixed → me.0.spent ≡ false → always y
      → Allows Rule slots id me 0 (λ _. new) (λ _. released tells past always (step slots 0 new 0 none) me new)
  releases slots id me new y full inside new_is front counts_are fixed_are live holds =
      subst (λ (l : List (ℕ × Option V)). Allows Rule slots id (me.0, l) 0 (λ _. new) (λ _. released tells past always (step slots 0 new 0 none) (me.0, l) new)) (sym full)
      (releases_at slots id me.0 new y inside new_is front counts_are fixed_are live holds)

  -- a pass compares what it saw with what a pass saw that it has taken in
  compares_on : (s : St) (r : Rule s) (id : ℕ) (v : View) → get_elem? s.views id ≡ some v
      → Rule record { words = slice_set s.words 0 (slice_index s.words 0); homes = s.homes; views = slice_set s.views id (settled v) }
  compares_on s r id v at =
      let w = settled v in
      let f = r.each id v at in
      record {
        history = r.history;
        best = r.best;
        turn = r.turn;
        seat_of = r.seat_of;
        words = ap (λ ws. slice_set ws 0 (slice_index ws 0)) r.words;
        low = r.low;
        each = after_set (λ j u. Fits r.history root r.best r.turn n r.seat_of j u) s.views id w
            (record { front = longer_begins v.front v.also r.history f.front f.also; also = (r.history, refl); counts = f.counts; number = f.number; fixed = f.fixed; clients = f.clients })
            (λ j u ne e. r.each j u e);
        placed = λ c low high. still_placed s.views id v w r.seat_of c at (λ h. h) (r.placed c low high);
        place = ⊎_elim
            (λ (free : IsFree tells past always r.history root r.best r.turn s). inl record {
              even = free.even;
              nobody_inside = after_set (λ j u. u.inside ≡ false) s.views id w (free.nobody_inside id v at) (λ j u ne e. free.nobody_inside j u e);
              value = free.value;
              homes = free.homes;
              home = free.home;
            })
            (λ (taken : TurnIsTaken tells past always r.history r.best r.turn s).
            let alone : (j : ℕ) (u : View) → get_elem? (set s.views id w) j ≡ some u → u.inside ≡ true → j ≡ taken.seat =
            after_set (λ j u. u.inside ≡ true → j ≡ taken.seat) s.views id w (λ i. taken.alone id v at i) (λ j u ne e. taken.alone j u e) in
            dite (ℕ_discrete taken.seat id)
            (λ (e : taken.seat ≡ id).
            inr (still_taken tells past always r.history r.best r.turn s taken (slice_set s.words 0 (slice_index s.words 0)) (set s.views id w) id v w e at (set_here s.views id w (index_below s.views id v at)) refl
            (λ h. record { inside = h.inside; number = h.number; front = longer_whole v.front v.also r.history h.front f.also; counts = h.counts; client = h.client })
            (λ j u a i. alone j u a i ∙ e)))
            (λ ne. inr record {
              odd = taken.odd;
              seat = taken.seat;
              view = taken.view;
              there = set_else s.views id taken.seat w ne ∙ taken.there;
              holder = taken.holder;
              alone = alone;
              homes = taken.homes;
            }))
            r.place;
      }

  pub compares : (slots id : ℕ) (me : Me (Option V) View) → Allows Rule slots id me 0 (λ x. x) (compared tells past always (step slots 0 0 0 none) me)
  compares slots id me s r len at lt =
      let f = r.each id me.0 at in
      (settled me.0, keeps, tt, compares_on s r id me.0 at, (refl, one_begins_longer me.0.front me.0.also r.history f.front f.also, other_begins_longer me.0.front me.0.also r.history f.front f.also))
