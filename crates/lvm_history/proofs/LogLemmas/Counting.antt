-- How many entries the requests of one run need, and how a request is found by its number.
use Rattle.std.proofs.Common.{◌≡◌, ◌≢◌, inl, inr, ℕ, zero, suc, ◌+◌, ◌*◌, ◌≤◌, ◌<◌, ◌&&◌, ◌||◌, ◌==◌, not, Bool, true, false, cond, List, [], ◌∷◌, ◌++◌, length, get_or, count_by, Option, Some, None, refl, sym, ◌∙◌, ap, arith, length-append}
use Rattle.std.specs.List.{list_any, find, cons_option}
use Rattle.std.proofs.lemmas.List.{append-nil}
use Rattle.std.proofs.lemmas.List.Sums.{sum_by-cons, sum_by_push}
use Rattle.std.proofs.lemmas.Bool.Decides.{nat_tests}
use Rattle.lvm_history.specs.passed.Vol.{Outcome, Request, Fact, Making, Made, Split, Removing, Removed, Begun, Landed, Taken, Cut, On, IsInList, begun, begun_by, has_id, lands_id, takes_id, need, needed, is_waiting, is_landed, open_count, landed_count, Follows, Ordered}
use Rattle.lvm_history.proofs.passed.Vol.{IdsFrom, stands-at, stands_begun, IsNumbered, numbered_none, numbered-push, begun-push, any-push, grow}

count-cons : (p : Request → Bool) (r : Request) (rs : List Request) → count_by p (r ∷ rs) ≡ cond (p r) 1 0 + count_by p rs
count-cons p r rs = sum_by-cons (λ (x : Request). cond (p x) 1 0) r rs

count_same : (p q : Request → Bool) (rs : List Request) → ((s : Request) → IsInList s rs → q s ≡ p s) → count_by q rs ≡ count_by p rs
count_same p q [] same = refl
count_same p q (r ∷ rs) same =
    let one : ◌≡◌ {A = ℕ} (cond (q r) 1 0) (cond (p r) 1 0) = ap (λ (t : Bool). cond t 1 0) (same r (inl refl)) in
    let rest = count_same p q rs (λ s there. same s (inr there)) in
    let a = count-cons p r rs in let b = count-cons q r rs in
    omega (arith, one, rest, a, b)

-- one request passes no longer
count_flip : (p q : Request → Bool) (n : ℕ) (rs : List Request) (r : Request) → IdsFrom n rs → IsInList r rs → p r ≡ true → q r ≡ false
    → ((s : Request) → IsInList s rs → s.id ≢ r.id → q s ≡ p s) → count_by q rs + 1 ≡ count_by p rs
count_flip p q n [] r ids none passed fails same = absurd none
count_flip p q n (s ∷ rs) r ids (inl is) passed fails same =
    let one : ◌≡◌ {A = ℕ} (cond (p s) 1 0) 1 = ap (λ (x : Request). cond (p x) 1 0) is ∙ ap (λ (t : Bool). cond t 1 0) passed in
    let none : ◌≡◌ {A = ℕ} (cond (q s) 1 0) 0 = ap (λ (x : Request). cond (q x) 1 0) is ∙ ap (λ (t : Bool). cond t 1 0) fails in
    let own : r.id ≡ n = ap (λ (x : Request). x.id) (sym is) ∙ ids.0 in
    let rest = count_same p q rs (λ t there. let at = stands-at (n + 1) rs t ids.1 there in let low = at.low in same t (inr there) (omega arith)) in
    let a = count-cons p s rs in let b = count-cons q s rs in
    omega (arith, one, none, rest, a, b)
count_flip p q n (s ∷ rs) r ids (inr there) passed fails same =
    let at = stands-at (n + 1) rs r ids.1 there in let low = at.low in let s_id = ids.0 in
    let one : ◌≡◌ {A = ℕ} (cond (q s) 1 0) (cond (p s) 1 0) = ap (λ (t : Bool). cond t 1 0) (same s (inl refl) (omega arith)) in
    let rest = count_flip p q (n + 1) rs r ids.1 there passed fails (λ t t_there other. same t (inr t_there) other) in
    let a = count-cons p s rs in let b = count-cons q s rs in
    omega (arith, one, rest, a, b)

-- the count of entries, and of those that are still needed
pub record IsCounted (run : ℕ) (facts : List Fact) : Type 0 where
  pub numbers : IsNumbered run facts
  pub total : needed facts ≡ length facts + 2 * open_count facts + landed_count facts

module _ (run : ℕ) where
  pub needed-push : (past : List Fact) (f : Fact) → needed (past ++ f ∷ []) ≡ needed past + need f
  needed-push past f = sum_by_push need past f

  pub length-push : (past : List Fact) (f : Fact) → length (past ++ f ∷ []) ≡ length past + 1
  length-push past f = length-append past (f ∷ [])

  step_same : (past : List Fact) (f : Fact) → begun_by f ≡ None → need f ≡ 1 → ((id : ℕ) → lands_id id f ≡ false) → ((id : ℕ) → takes_id id f ≡ false) → IsCounted run past
      → needed (past ++ f ∷ []) ≡ length (past ++ f ∷ []) + 2 * open_count (past ++ f ∷ []) + landed_count (past ++ f ∷ [])
  step_same past f aside one no_landing no_taking q =
      let b : begun (past ++ f ∷ []) ≡ begun past = begun-push past f ∙ ap (λ (o : Option Request). begun past ++ cons_option o []) aside ∙ append-nil (begun past) in
      let o : open_count (past ++ f ∷ []) ≡ open_count past = ap (λ (rs : List Request). count_by (is_waiting (past ++ f ∷ [])) rs) b ∙ count_same (is_waiting past) (is_waiting (past ++ f ∷ [])) (begun past) (λ s there. ap not (landing s.id)) in
      let l : landed_count (past ++ f ∷ []) ≡ landed_count past = ap (λ (rs : List Request). count_by (is_landed (past ++ f ∷ [])) rs) b ∙ count_same (is_landed past) (is_landed (past ++ f ∷ [])) (begun past) (λ s there. both (landing s.id) (taking s.id)) in
      let t = q.total in
      omega (arith, needed-push past f, length-push past f, o, l, t, one)
    where
      or_no : (a b : Bool) → b ≡ false → (a || b) ≡ a
      or_no true b is = refl
      or_no false b is = is

      landing : (id : ℕ) → list_any (lands_id id) (past ++ f ∷ []) ≡ list_any (lands_id id) past
      landing id = any-push (lands_id id) past f ∙ or_no (list_any (lands_id id) past) (lands_id id f) (no_landing id)

      taking : (id : ℕ) → list_any (takes_id id) (past ++ f ∷ []) ≡ list_any (takes_id id) past
      taking id = any-push (takes_id id) past f ∙ or_no (list_any (takes_id id) past) (takes_id id f) (no_taking id)

      both : {a b c d : Bool} → a ≡ b → c ≡ d → (a && not c) ≡ (b && not d)
      both {a} {b} {c} {d} ab cd = ap (λ (t : Bool). t && not c) ab ∙ ap (λ (t : Bool). b && not t) cd

  or_no : (a b : Bool) → b ≡ false → (a || b) ≡ a
  or_no true b is = refl
  or_no false b is = is

  pub landing_same : (past : List Fact) (f : Fact) (id : ℕ) → lands_id id f ≡ false → list_any (lands_id id) (past ++ f ∷ []) ≡ list_any (lands_id id) past
  landing_same past f id none = any-push (lands_id id) past f ∙ or_no (list_any (lands_id id) past) (lands_id id f) none

  pub taking_same : (past : List Fact) (f : Fact) (id : ℕ) → takes_id id f ≡ false → list_any (takes_id id) (past ++ f ∷ []) ≡ list_any (takes_id id) past
  taking_same past f id none = any-push (takes_id id) past f ∙ or_no (list_any (takes_id id) past) (takes_id id f) none

  both : (a b c d : Bool) → a ≡ b → c ≡ d → (a && not c) ≡ (b && not d)
  both a b c d ab cd = ap (λ (t : Bool). t && not c) ab ∙ ap (λ (t : Bool). b && not t) cd

  other : (a b : ℕ) → (a ≡ b → ⊥) → (a == b) ≡ false
  other a b apart = grind (arith, nat_tests)

  own : (a : ℕ) → (a == a) ≡ true
  own a = grind (arith, nat_tests)

  pub no_taking_yet : (past : List Fact) (id : ℕ) → IsNumbered run past → list_any (lands_id id) past ≡ false → list_any (takes_id id) past ≡ false
  no_taking_yet past id q none = by_answer (list_any (takes_id id) past) refl
    where
      by_answer : (t : Bool) → list_any (takes_id id) past ≡ t → t ≡ false
      by_answer false is = refl
      by_answer true is = let e = q.takes id is in absurd (cc)

  step_begun : (past : List Fact) (r : Request) → IsCounted run past → Follows run past (Begun r)
      → needed (past ++ Begun r ∷ []) ≡ length (past ++ Begun r ∷ []) + 2 * open_count (past ++ Begun r ∷ []) + landed_count (past ++ Begun r ∷ [])
  step_begun past r q follows =
      let n = q.numbers in
      let f : Fact = Begun r in
      let b : begun (past ++ f ∷ []) ≡ begun past ++ r ∷ [] = begun-push past f in
      let new_id : r.id ≡ length (begun past) + 1 = follows.1 in
      let unlanded : list_any (lands_id r.id) past ≡ false = none_above n (omega arith) in
      let opens : is_waiting (past ++ f ∷ []) r ≡ true = ap not (landing_same past f r.id refl ∙ unlanded) in
      let isnt : is_landed (past ++ f ∷ []) r ≡ false = ap (λ (t : Bool). t && not (list_any (takes_id r.id) (past ++ f ∷ []))) (landing_same past f r.id refl ∙ unlanded) in
      let o : open_count (past ++ f ∷ []) ≡ open_count past + 1 =
      ap (λ (rs : List Request). count_by (is_waiting (past ++ f ∷ [])) rs) b
      ∙ sum_by_push (λ (s : Request). cond (is_waiting (past ++ f ∷ []) s) 1 0) (begun past) r
      ∙ (let a = count_same (is_waiting past) (is_waiting (past ++ f ∷ [])) (begun past) (λ s there. ap not (landing_same past f s.id refl)) in
      let c : ◌≡◌ {A = ℕ} (cond (is_waiting (past ++ f ∷ []) r) 1 0) 1 = ap (λ (t : Bool). cond t 1 0) opens in omega (arith, a, c)) in
      let l : landed_count (past ++ f ∷ []) ≡ landed_count past =
      ap (λ (rs : List Request). count_by (is_landed (past ++ f ∷ [])) rs) b
      ∙ sum_by_push (λ (s : Request). cond (is_landed (past ++ f ∷ []) s) 1 0) (begun past) r
      ∙ (let a = count_same (is_landed past) (is_landed (past ++ f ∷ [])) (begun past) (λ s there. both _ _ _ _ (landing_same past f s.id refl) (taking_same past f s.id refl)) in
      let c : ◌≡◌ {A = ℕ} (cond (is_landed (past ++ f ∷ []) r) 1 0) 0 = ap (λ (t : Bool). cond t 1 0) isnt in omega (arith, a, c)) in
      let t = q.total in
      omega (arith, needed-push past f, length-push past f, o, l, t)
    where
      none_above : IsNumbered run past → length (begun past) < r.id → list_any (lands_id r.id) past ≡ false
      none_above n above = by_answer (list_any (lands_id r.id) past) refl
        where
          by_answer : (t : Bool) → list_any (lands_id r.id) past ≡ t → t ≡ false
          by_answer false is = refl
          by_answer true is = let its = n.lands r.id is in let high = its.1 in absurd (omega (arith, high, above))

  step_landed : (past : List Fact) (r : Request) (how : Outcome) (started : Bool) (got : List (List ℕ)) → IsCounted run past → Follows run past (Landed r how started got)
      → needed (past ++ Landed r how started got ∷ []) ≡ length (past ++ Landed r how started got ∷ []) + 2 * open_count (past ++ Landed r how started got ∷ []) + landed_count (past ++ Landed r how started got ∷ [])
  step_landed past r how started got q follows =
      let n = q.numbers in
      let f : Fact = Landed r how started got in
      let b : begun (past ++ f ∷ []) ≡ begun past = begun-push past f ∙ append-nil (begun past) in
      let there = stands_begun past r follows.0 in
      let unlanded : list_any (lands_id r.id) past ≡ false = follows.1 in
      let lands_now : list_any (lands_id r.id) (past ++ f ∷ []) ≡ true = any-push (lands_id r.id) past f ∙ ap (λ (t : Bool). t || (r.id == r.id)) unlanded ∙ own r.id in
      let untaken : list_any (takes_id r.id) (past ++ f ∷ []) ≡ false = taking_same past f r.id refl ∙ no_taking_yet past r.id n unlanded in
      let o : open_count (past ++ f ∷ []) + 1 ≡ open_count past =
      ap (λ (rs : List Request). count_by (is_waiting (past ++ f ∷ [])) rs + 1) b
      ∙ count_flip (is_waiting past) (is_waiting (past ++ f ∷ [])) 1 (begun past) r n.ids there (ap not unlanded) (ap not lands_now)
      (λ s s_there apart. ap not (landing_same past f s.id (other r.id s.id (λ same. apart (sym same))))) in
      let l : landed_count past + 1 ≡ landed_count (past ++ f ∷ []) =
      count_flip (is_landed (past ++ f ∷ [])) (is_landed past) 1 (begun past) r n.ids there
      (both _ true _ false lands_now untaken)
      (ap (λ (t : Bool). t && not (list_any (takes_id r.id) past)) unlanded)
      (λ s s_there apart. sym (both _ _ _ _ (landing_same past f s.id (other r.id s.id (λ same. apart (sym same)))) (taking_same past f s.id refl)))
      ∙ ap (λ (rs : List Request). count_by (is_landed (past ++ f ∷ [])) rs) (sym b) in
      let t = q.total in
      omega (arith, needed-push past f, length-push past f, o, l, t)

  step_taken : (past : List Fact) (r : Request) → IsCounted run past → Follows run past (Taken r)
      → needed (past ++ Taken r ∷ []) ≡ length (past ++ Taken r ∷ []) + 2 * open_count (past ++ Taken r ∷ []) + landed_count (past ++ Taken r ∷ [])
  step_taken past r q follows =
      let n = q.numbers in
      let f : Fact = Taken r in
      let b : begun (past ++ f ∷ []) ≡ begun past = begun-push past f ∙ append-nil (begun past) in
      let there = stands_begun past r follows.0 in
      let landed : list_any (lands_id r.id) past ≡ true = follows.1 in
      let untaken : list_any (takes_id r.id) past ≡ false = follows.2 in
      let takes_now : list_any (takes_id r.id) (past ++ f ∷ []) ≡ true = any-push (takes_id r.id) past f ∙ ap (λ (t : Bool). t || (r.id == r.id)) untaken ∙ own r.id in
      let o : open_count (past ++ f ∷ []) ≡ open_count past =
      ap (λ (rs : List Request). count_by (is_waiting (past ++ f ∷ [])) rs) b
      ∙ count_same (is_waiting past) (is_waiting (past ++ f ∷ [])) (begun past) (λ s s_there. ap not (landing_same past f s.id refl)) in
      let l : landed_count (past ++ f ∷ []) + 1 ≡ landed_count past =
      ap (λ (rs : List Request). count_by (is_landed (past ++ f ∷ [])) rs + 1) b
      ∙ count_flip (is_landed past) (is_landed (past ++ f ∷ [])) 1 (begun past) r n.ids there
      (both _ true _ false landed untaken)
      (both _ true _ true (landing_same past f r.id refl ∙ landed) takes_now)
      (λ s s_there apart. both _ _ _ _ (landing_same past f s.id refl) (taking_same past f s.id (other r.id s.id (λ same. apart (sym same))))) in
      let t = q.total in
      omega (arith, needed-push past f, length-push past f, o, l, t)

  counted-push : (past : List Fact) (f : Fact) → IsCounted run past → Follows run past f → IsCounted run (past ++ f ∷ [])
  counted-push past f q follows = record { numbers = numbered-push run past f q.numbers follows; total = by_fact f follows }
    where
      by_fact : (g : Fact) → Follows run past g → needed (past ++ g ∷ []) ≡ length (past ++ g ∷ []) + 2 * open_count (past ++ g ∷ []) + landed_count (past ++ g ∷ [])
      by_fact (Begun r) follows = step_begun past r q follows
      by_fact (Landed r how started got) follows = step_landed past r how started got q follows
      by_fact (Taken r) follows = step_taken past r q follows
      by_fact (Making lv blocks m) follows = step_same past (Making lv blocks m) refl refl (λ id. refl) (λ id. refl) q
      by_fact (Made lv) follows = step_same past (Made lv) refl refl (λ id. refl) (λ id. refl) q
      by_fact (Split from lv) follows = step_same past (Split from lv) refl refl (λ id. refl) (λ id. refl) q
      by_fact (Removing vol) follows = step_same past (Removing vol) refl refl (λ id. refl) (λ id. refl) q
      by_fact (Removed vol) follows = step_same past (Removed vol) refl refl (λ id. refl) (λ id. refl) q
      by_fact Cut follows = step_same past Cut refl refl (λ id. refl) (λ id. refl) q
      by_fact (On moment) follows = step_same past (On moment) refl refl (λ id. refl) (λ id. refl) q

  pub counted : (facts : List Fact) → Ordered run [] facts → IsCounted run facts
  counted facts ordered = grow run (IsCounted run) counted-push [] facts (record { numbers = numbered_none run; total = refl }) ordered

-- three entries are needed for each request
pub three_needed : (facts : List Fact) → 3 * length (begun facts) ≤ needed facts
three_needed [] = omega arith
three_needed (f ∷ facts) = let rest = three_needed facts in let more = sum_by-cons need f facts in by_fact f rest more
  where
    by_fact : (g : Fact) → 3 * length (begun facts) ≤ needed facts → needed (g ∷ facts) ≡ need g + needed facts → 3 * length (begun (g ∷ facts)) ≤ needed (g ∷ facts)
    by_fact (Begun r) rest more = omega (arith, rest, more)
    by_fact _ rest more = omega (arith, rest, more)

-- a request is found by its number
pub find_at : (n : ℕ) (rs : List Request) (r : Request) → IdsFrom n rs → IsInList r rs → find (has_id r.id) rs ≡ Some r
find_at n [] r ids none = absurd none
find_at n (s ∷ rs) r ids (inl is) =
    let e : (s.id == r.id) ≡ true = ap (λ (x : Request). x.id == r.id) is ∙ (let same : (r.id == r.id) ≡ true = grind (arith, nat_tests) in same) in
    ap (λ (t : Bool). cond t (Some s) (find (has_id r.id) rs)) e ∙ ap (λ (x : Request). Some x) is
find_at n (s ∷ rs) r ids (inr there) =
    let at = stands-at (n + 1) rs r ids.1 there in let low = at.low in let s_id = ids.0 in
    let e : (s.id == r.id) ≡ false = apart s.id r.id (omega arith) in
    ap (λ (t : Bool). cond t (Some s) (find (has_id r.id) rs)) e ∙ find_at (n + 1) rs r ids.1 there
  where
    apart : (a b : ℕ) → a < b → (a == b) ≡ false
    apart a b less = grind (arith, nat_tests)

find_absent : (rs : List Request) (id : ℕ) → ((s : Request) → IsInList s rs → (s.id == id) ≡ false) → find (has_id id) rs ≡ None
find_absent [] id other = refl
find_absent (s ∷ rs) id other = ap (λ (t : Bool). cond t (Some s) (find (has_id id) rs)) (other s (inl refl)) ∙ find_absent rs id (λ r there. other r (inr there))

pub find_below : (n : ℕ) (rs : List Request) (id : ℕ) → IdsFrom n rs → id < n → find (has_id id) rs ≡ None
find_below n rs id ids below = find_absent rs id (λ s there. let low = (stands-at n rs s ids there).low in apart s.id id (omega (arith, low, below)))
  where
    apart : (a b : ℕ) → b < a → (a == b) ≡ false
    apart a b less = grind (arith, nat_tests)

pub stands_get : {X : Type 0} → (xs : List X) (k : ℕ) (d : X) → k < length xs → IsInList (get_or xs k d) xs
stands_get [] k d in_range = absurd (omega arith)
stands_get (x ∷ xs) zero d in_range = inl refl
stands_get (x ∷ xs) (suc k) d in_range = inr (stands_get xs k d (omega arith))
