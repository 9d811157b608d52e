-- What the history tells as a request begins.
use Rattle.std.proofs.Common.{◌≡◌, ◌==◌, ◌≤◌, ◌+◌, ℕ, zero, suc, Bool, true, false, ◌&&◌, ◌||◌, not, cond, nat_lt, filter, find, List, [], ◌∷◌, ◌++◌, Option, Some, None, length, drop, refl, sym, ◌∙◌, ap, arith, if◌then◌else◌}
use Rattle.std.specs.Prelude.{count_by, is_some, unwrap_or}
use Rattle.std.specs.List.{list_any, sum_by}
use Rattle.std.specs.Simd.{first_chunks}
use Rattle.std.proofs.lemmas.Bool.{eq-eqb, lt-ltb, ltb-true}
use Rattle.std.proofs.lemmas.List.Sums.{sum_by-cons, sum_by_push}
use Rattle.lvm_num.proofs.Booleans.{or_false, not_so}
use Rattle.lvm_vol.specs.Facts.{Fact, Request as Asked, Making, Made, Split, Removing, Removed, Begun, Landed, Taken, Cut, On, begun}
use Rattle.lvm_vol.specs.Legal.{begins_in}
use Rattle.lvm_vol.specs.Log.{Log, asked, has_id, is_answered, is_open, lands_id, need, needed, next_id, no_request, takes_id}
use Rattle.lvm_vol.specs.Order.{Ordered}
use Rattle.lvm_vol.proofs.LogLemmas.{find_stands}
use Rattle.lvm_vol.proofs.FactsLemmas.Order.{IdsFrom, any-push, begun-push, numbered, stands-at}
use Rattle.lvm_vol.proofs.FactsLemmas.Counting.{count_begun}
use Rattle.lvm_session.specs.Sound.{outcome_by, outcome_in, place_in}

pub chunks_long : (n k : ℕ) (xs : List ℕ) → length (first_chunks n k xs) ≡ k
chunks_long n zero xs = refl
chunks_long n (suc k) xs = ap suc (chunks_long n k (drop n xs))

-- ---- lists

module _ {A : Type 0} where
  find_other : (t : A → Bool) (xs : List A) (x : A) → t x ≡ false → find t (xs ++ x ∷ []) ≡ find t xs
  find_other t [] x other = ap (λ b. if b then Some x else None) other
  find_other t (y ∷ xs) x other = ap (λ m. if t y then Some y else m) (find_other t xs x other)

  find_last : (t : A → Bool) (xs : List A) (x : A) → find t xs ≡ None → t x ≡ true → find t (xs ++ x ∷ []) ≡ Some x
  find_last t [] x none is = ap (λ b. if b then Some x else None) is
  find_last t (y ∷ xs) x none is = by (t y) none (λ e. find_last t xs x e is)
    where
      by : (b : Bool) → (if b then Some y else find t xs) ≡ None → (find t xs ≡ None → find t (xs ++ x ∷ []) ≡ Some x) → (if b then Some y else find t (xs ++ x ∷ [])) ≡ Some x
      by true e rest = absurd (cc e)
      by false e rest = rest e

  filter_other : (t : A → Bool) (xs : List A) (x : A) → t x ≡ false → filter t (xs ++ x ∷ []) ≡ filter t xs
  filter_other t [] x other = ap (λ b. if b then x ∷ [] else []) other
  filter_other t (y ∷ xs) x other = ap (λ (rest : List A). if t y then y ∷ rest else rest) (filter_other t xs x other)

-- ---- the numbers that began

ids_low : (n : ℕ) (rs : List Asked) → IdsFrom n rs → (m : ℕ) → n + length rs ≤ m → filter (λ (r : Asked). nat_lt r.id m) rs ≡ rs
ids_low n [] ids m high = refl
ids_low n (r ∷ rs) ids m high =
    ap (λ b. if b then r ∷ filter (λ (x : Asked). nat_lt x.id m) rs else filter (λ (x : Asked). nat_lt x.id m) rs) (lt-ltb r.id m (let own = ids.0 in omega (arith, own, high)))
    ∙ ap (λ (rest : List Asked). r ∷ rest) (ids_low (n + 1) rs ids.1 m (omega (arith, high)))

pub few_begin : (run : ℕ) (facts : List Fact) → count_by (begins_in run) facts ≤ needed facts
few_begin run [] = omega arith
few_begin run (f ∷ facts) =
    let counted = sum_by-cons (λ (x : Fact). cond (begins_in run x) 1 0) f facts in
    let needs = sum_by-cons need f facts in
    let rest = few_begin run facts in
    let one = of_fact f in
    omega (arith, counted, needs, rest, one)
  where
    at_most : (b : Bool) → cond b 1 0 ≤ 3
    at_most true = omega arith
    at_most false = omega arith

    of_fact : (g : Fact) → cond (begins_in run g) 1 0 ≤ need g
    of_fact (Begun r) = at_most (r.run == run)
    of_fact (Making lv blocks m) = omega arith
    of_fact (Made lv) = omega arith
    of_fact (Split from lv) = omega arith
    of_fact (Removing vol) = omega arith
    of_fact (Removed vol) = omega arith
    of_fact (Landed r how started got) = omega arith
    of_fact (Taken r) = omega arith
    of_fact Cut = omega arith
    of_fact (On moment) = omega arith

module _ (log : Log) (ordered : Ordered log.run [] log.facts) (r : Asked) (own : r.id ≡ next_id log) where
  abbrev facts : List Fact
  facts = log.facts

  abbrev after : List Fact
  after = log.facts ++ Begun r ∷ []

  pub next_is : next_id log ≡ length (begun facts) + 1
  next_is = let same = count_begun log.run facts (numbered log.run facts ordered).runs in omega (arith, same)

  begun_after : begun after ≡ begun facts ++ r ∷ []
  begun_after = begun-push facts (Begun r)

  pub next_more : next_id (record log { facts = after }) ≡ next_id log + count_by (begins_in log.run) (Begun r ∷ [])
  next_more =
      let more : count_by (begins_in log.run) after ≡ count_by (begins_in log.run) facts + cond (r.run == log.run) 1 0 = sum_by_push (λ (x : Fact). cond (begins_in log.run x) 1 0) facts (Begun r) in
      let one : count_by (begins_in log.run) (Begun r ∷ []) ≡ cond (r.run == log.run) 1 0 + 0 = sum_by-cons (λ (x : Fact). cond (begins_in log.run x) 1 0) (Begun r) [] in
      omega (arith, more, one)

  -- ---- what was there

  pub asked_other : (id : ℕ) → (r.id == id) ≡ false → asked after id ≡ asked facts id
  asked_other id other = ap (find (has_id id)) begun_after ∙ find_other (has_id id) (begun facts) r other

  any_same : (t : Fact → Bool) → t (Begun r) ≡ false → list_any t after ≡ list_any t facts
  any_same t none = any-push t facts (Begun r) ∙ ap (λ b. list_any t facts || b) none ∙ or_false (list_any t facts)

  pub open_other : (id : ℕ) → (r.id == id) ≡ false → is_open after id ≡ is_open facts id
  open_other id other = ap (λ m. is_some m && not (list_any (lands_id id) after)) (asked_other id other) ∙ ap (λ b. is_some (asked facts id) && not b) (any_same (lands_id id) refl)

  pub answered_other : (client id : ℕ) → (r.id == id) ≡ false → is_answered after client id ≡ is_answered facts client id
  answered_other client id other =
      ap (λ m. is_some m && (unwrap_or m no_request).client == client && list_any (lands_id id) after && not (list_any (takes_id id) after)) (asked_other id other)
      ∙ ap (λ b. is_some (asked facts id) && (unwrap_or (asked facts id) no_request).client == client && b && not (list_any (takes_id id) after)) (any_same (lands_id id) refl)
      ∙ ap (λ b. is_some (asked facts id) && (unwrap_or (asked facts id) no_request).client == client && list_any (lands_id id) facts && not b) (any_same (takes_id id) refl)

  pub place_earlier : (id : ℕ) → nat_lt r.id id ≡ false → place_in after id ≡ place_in facts id
  place_earlier id late = ap (λ (rs : List Asked). sum_by (λ (x : Asked). x.count) (filter (λ (x : Asked). nat_lt x.id id) rs)) begun_after ∙ ap (λ (rs : List Asked). sum_by (λ (x : Asked). x.count) rs) (filter_other (λ (x : Asked). nat_lt x.id id) (begun facts) r late)

  -- ---- what is new

  none_asked : asked facts r.id ≡ None
  none_asked = by (asked facts r.id) refl
    where
      by : (m : Option Asked) → asked facts r.id ≡ m → m ≡ None
      by None is = refl
      by (Some x) is =
          let found = find_stands r.id (begun facts) x is in
          let high = (stands-at 1 (begun facts) x (numbered log.run facts ordered).ids found.0).high in
          let same = found.1 in
          let next = next_is in
          absurd (omega (arith, high, same, next, own))

  pub asked_new : asked after r.id ≡ Some r
  asked_new = ap (find (has_id r.id)) begun_after ∙ find_last (has_id r.id) (begun facts) r none_asked (eq-eqb r.id r.id refl)

  pub unlanded : list_any (lands_id r.id) facts ≡ false
  unlanded = by (list_any (lands_id r.id) facts) refl
    where
      by : (b : Bool) → list_any (lands_id r.id) facts ≡ b → b ≡ false
      by false is = refl
      by true is = let high = ((numbered log.run facts ordered).lands r.id is).1 in let next = next_is in absurd (omega (arith, high, next, own))

  pub open_new : is_open after r.id ≡ true
  open_new = ap (λ m. is_some m && not (list_any (lands_id r.id) after)) asked_new ∙ ap not (any_same (lands_id r.id) refl ∙ unlanded)

  pub place_new : place_in after r.id ≡ sum_by (λ (x : Asked). x.count) (begun facts)
  place_new = place_earlier r.id (not_less r.id) ∙ ap (λ (rs : List Asked). sum_by (λ (x : Asked). x.count) rs) (ids_low 1 (begun facts) (numbered log.run facts ordered).ids r.id (let next = next_is in omega (arith, own, next)))
    where
      not_less : (n : ℕ) → nat_lt n n ≡ false
      not_less n = by (nat_lt n n) refl
        where
          by : (b : Bool) → nat_lt n n ≡ b → b ≡ false
          by false is = refl
          by true is = let low = ltb-true n n is in absurd (omega (arith, low))

  none_so : (fs : List Fact) (id : ℕ) → list_any (lands_id id) fs ≡ false → outcome_in fs id ≡ None
  none_so [] id none = refl
  none_so (f ∷ fs) id none = by (lands_id id f) (λ e. none_so fs id e) none
    where
      by : (b : Bool) → (list_any (lands_id id) fs ≡ false → outcome_in fs id ≡ None) → b || list_any (lands_id id) fs ≡ false → (if b then outcome_by f else outcome_in fs id) ≡ None
      by true rest e = not_so (sym e)
      by false rest e = rest e

  pub outcome_new : outcome_in after r.id ≡ None
  outcome_new = none_so after r.id (any_same (lands_id r.id) refl ∙ unlanded)
