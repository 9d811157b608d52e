-- Tests of rows say what holds of the facts that they stand for.
use Rattle.std.proofs.Common.{◌≡◌, ◌↔◌, IsTrue, IsFalse, inl, inr, ℕ, zero, suc, ◌+◌, ◌-◌, ◌≤◌, ◌<◌, ◌&&◌, ◌||◌, ◌==◌, not, nat_lt, Bool, true, false, cond, List, [], ◌∷◌, ◌++◌, length, take, drop, get_or, count_by, refl, sym, ◌∙◌, ap, subst, arith}
use Rattle.std.specs.List.{list_any, list_all}
use Rattle.std.proofs.lemmas.List.{length-take, length-drop, get_or-take, get_or-drop, map_more, drop_more}
use Rattle.std.proofs.lemmas.List.Sums.{sum_by-cons}
use Rattle.std.proofs.lemmas.Bool.Decides.{nat_tests}
use Rattle.std.proofs.lemmas.Bool.{eqb-true, and_from, not-true, and_parts, not_from_false}
use Rattle.lvm_vol.specs.declared.entry.Outcome.{Outcome}
use Rattle.lvm_vol.specs.declared.entry.Outcome.TheVariants as outcome
use Rattle.lvm_allowed.specs.declared.row.Ask.{Ask}
use Rattle.lvm_allowed.specs.declared.row.Row.{Row}
use Rattle.lvm_allowed.specs.declared.row.Row.TheVariants as row
use Rattle.lvm_vol.specs.Facts.{Request, Fact, Begun, IsInList, block_of}
use Rattle.lvm_vol.specs.May.{known, May}
use Rattle.lvm_vol.specs.Legal.{begins_in, lands, takes, IsOutcomeOf, Gets, GotMay, TakenOnce, IsLater, Fits, LegalFrom}
use Rattle.lvm_vol.specs.Log.{is_got}
use Rattle.lvm_vol.proofs.passed.Num.{same_itself, same_turned}
use Rattle.lvm_allowed.specs.Rows.{no_ask, ask_of, blocks_at, request_in, fact_of, facts_of, is_landing, is_taking}
use Rattle.lvm_allowed.specs.Fitting.{is_begin, is_beginning, is_earlier_on, is_bounded, is_kind}

module _ (run : ℕ) (asks : List Ask) (blocks : List (List ℕ)) where
  began_of : (id : ℕ) (rows : List Row) → IsTrue (list_any (is_beginning id) rows) → IsInList (Begun (request_in run asks blocks id)) (facts_of run asks blocks rows)
  began_of id [] none = absurd (let e : ◌≡◌ {A = Bool} false true = none in cc)
  began_of id (r ∷ rows) some = by_row r some (λ later. began_of id rows later)
    where
      by_row : (g : Row) → IsTrue (is_beginning id g || list_any (is_beginning id) rows) → (IsTrue (list_any (is_beginning id) rows) → IsInList (Begun (request_in run asks blocks id)) (facts_of run asks blocks rows))
          → IsInList (Begun (request_in run asks blocks id)) (facts_of run asks blocks (g ∷ rows))
      by_row (row.Begun begun) some rest = by_test (begun == id) refl some
        where
          by_test : (t : Bool) → (begun == id) ≡ t → IsTrue (t || list_any (is_beginning id) rows) → IsInList (Begun (request_in run asks blocks id)) (facts_of run asks blocks (row.Begun begun ∷ rows))
          by_test true is some = inl (ap (λ (n : ℕ). Begun (request_in run asks blocks n)) (eqb-true begun id is))
          by_test false is some = inr (rest some)
      by_row _ some rest = inr (rest some)

  -- any request that began is one that a row begins
  row_of_begun : (r : Request) (rows : List Row) → IsInList (Begun r) (facts_of run asks blocks rows) → IsTrue (list_any (is_beginning r.id) rows) × (r ≡ request_in run asks blocks r.id)
  row_of_begun r [] none = absurd none
  row_of_begun r (g ∷ rows) there = by_row g there (λ later. row_of_begun r rows later)
    where
      late : (b : Bool) → IsTrue (list_any (is_beginning r.id) rows) × (r ≡ request_in run asks blocks r.id) → IsTrue (b || list_any (is_beginning r.id) rows) × (r ≡ request_in run asks blocks r.id)
      late true its = (refl, its.1)
      late false its = (its.0, its.1)

      by_row : (h : Row) → IsInList (Begun r) (facts_of run asks blocks (h ∷ rows)) → (IsInList (Begun r) (facts_of run asks blocks rows) → IsTrue (list_any (is_beginning r.id) rows) × (r ≡ request_in run asks blocks r.id))
          → IsTrue (list_any (is_beginning r.id) (h ∷ rows)) × (r ≡ request_in run asks blocks r.id)
      by_row (row.Begun begun) (inl is) rest =
          let same : request_in run asks blocks begun ≡ r = cc is in
          let own : begun ≡ r.id = ap (λ (q : Request). q.id) same in
          (ap (λ (t : Bool). t || list_any (is_beginning r.id) rows) (ap (λ (n : ℕ). n == r.id) own ∙ same_itself r.id), sym same ∙ ap (λ (n : ℕ). request_in run asks blocks n) own)
      by_row (row.Begun begun) (inr there) rest = late (begun == r.id) (rest there)
      by_row (row.Landed n how started) (inl is) rest = absurd (cc is)
      by_row (row.Landed n how started) (inr there) rest = rest there
      by_row (row.Taken client n) (inl is) rest = absurd (cc is)
      by_row (row.Taken client n) (inr there) rest = rest there
      by_row (row.Making lv size m) (inl is) rest = absurd (cc is)
      by_row (row.Making lv size m) (inr there) rest = rest there
      by_row (row.Made lv) (inl is) rest = absurd (cc is)
      by_row (row.Made lv) (inr there) rest = rest there
      by_row (row.Split from lv) (inl is) rest = absurd (cc is)
      by_row (row.Split from lv) (inr there) rest = rest there
      by_row (row.Removing vol) (inl is) rest = absurd (cc is)
      by_row (row.Removing vol) (inr there) rest = rest there
      by_row (row.Removed vol) (inl is) rest = absurd (cc is)
      by_row (row.Removed vol) (inr there) rest = rest there
      by_row row.Cut (inl is) rest = absurd (cc is)
      by_row row.Cut (inr there) rest = rest there
      by_row (row.On moment) (inl is) rest = absurd (cc is)
      by_row (row.On moment) (inr there) rest = rest there

  landing_is : (r : Request) (rows : List Row) → r.run ≡ run → list_any (lands r) (facts_of run asks blocks rows) ≡ list_any (is_landing r.id) rows
  landing_is r [] own = refl
  landing_is r (g ∷ rows) own = ap (λ (t : Bool). t || list_any (lands r) (facts_of run asks blocks rows)) (by_row g) ∙ ap (λ (t : Bool). is_landing r.id g || t) (landing_is r rows own)
    where
      by_row : (h : Row) → lands r (fact_of run asks blocks h) ≡ is_landing r.id h
      by_row (row.Landed n how started) = ap (λ (t : Bool). t && (r.id == n)) (ap (λ (m : ℕ). m == run) own ∙ same_itself run) ∙ same_turned r.id n
      by_row _ = refl

  taking_is : (r : Request) (rows : List Row) → r.run ≡ run → list_any (takes r) (facts_of run asks blocks rows) ≡ list_any (is_taking r.id) rows
  taking_is r [] own = refl
  taking_is r (g ∷ rows) own = ap (λ (t : Bool). t || list_any (takes r) (facts_of run asks blocks rows)) (by_row g) ∙ ap (λ (t : Bool). is_taking r.id g || t) (taking_is r rows own)
    where
      by_row : (h : Row) → takes r (fact_of run asks blocks h) ≡ is_taking r.id h
      by_row (row.Taken client n) = ap (λ (t : Bool). t && (r.id == n)) (ap (λ (m : ℕ). m == run) own ∙ same_itself run) ∙ same_turned r.id n
      by_row _ = refl

  begins_are : (rows : List Row) → count_by (begins_in run) (facts_of run asks blocks rows) ≡ count_by is_begin rows
  begins_are [] = refl
  begins_are (g ∷ rows) =
      let a = sum_by-cons (λ (f : Fact). cond (begins_in run f) 1 0) (fact_of run asks blocks g) (facts_of run asks blocks rows) in
      let b = sum_by-cons (λ (r : Row). cond (is_begin r) 1 0) g rows in
      let one : ◌≡◌ {A = ℕ} (cond (begins_in run (fact_of run asks blocks g)) 1 0) (cond (is_begin g) 1 0) = ap (λ (t : Bool). cond t 1 0) (by_row g) in
      let rest = begins_are rows in
      omega (arith, a, b, one, rest)
    where
      by_row : (h : Row) → begins_in run (fact_of run asks blocks h) ≡ is_begin h
      by_row (row.Begun n) = same_itself run
      by_row _ = refl

  later_of : (moment : ℕ) (rows : List Row) → IsTrue (list_all (is_earlier_on moment) rows) → IsLater (facts_of run asks blocks rows) moment
  later_of moment [] all = tt
  later_of moment (g ∷ rows) all = by_row g (and_parts (is_earlier_on moment g) (list_all (is_earlier_on moment) rows) all) (later_of moment rows (and_parts (is_earlier_on moment g) (list_all (is_earlier_on moment) rows) all).1)
    where
      by_row : (h : Row) → IsTrue (is_earlier_on moment h) × IsTrue (list_all (is_earlier_on moment) rows) → IsLater (facts_of run asks blocks rows) moment → IsLater (facts_of run asks blocks (h ∷ rows)) moment
      by_row (row.On other) its rest = let test = its.0 in (grind (arith, nat_tests, test), rest)
      by_row _ its rest = rest

  of_later : (moment : ℕ) (rows : List Row) → IsLater (facts_of run asks blocks rows) moment → IsTrue (list_all (is_earlier_on moment) rows)
  of_later moment [] later = refl
  of_later moment (g ∷ rows) later = by_row g later (λ rest. of_later moment rows rest)
    where
      by_row : (h : Row) → IsLater (facts_of run asks blocks (h ∷ rows)) moment → (IsLater (facts_of run asks blocks rows) moment → IsTrue (list_all (is_earlier_on moment) rows)) → IsTrue (list_all (is_earlier_on moment) (h ∷ rows))
      by_row (row.On other) its rest =
          let less = its.0 in
          and_from (nat_lt other moment) (list_all (is_earlier_on moment) rows) (grind (arith, nat_tests, less)) (rest its.1)
      by_row (row.Begun n) its rest = rest its
      by_row (row.Landed n how started) its rest = rest its
      by_row (row.Taken client n) its rest = rest its
      by_row (row.Making lv size m) its rest = rest its
      by_row (row.Made lv) its rest = rest its
      by_row (row.Split from lv) its rest = rest its
      by_row (row.Removing vol) its rest = rest its
      by_row (row.Removed vol) its rest = rest its
      by_row row.Cut its rest = rest its

  pub begun_fits : (rows : List Row) (id count : ℕ) → count ≡ count_by is_begin rows → IsTrue (id == count + 1) ↔ Fits (facts_of run asks blocks rows) (fact_of run asks blocks (row.Begun id))
  begun_fits rows id count is = (
    λ same. eqb-true id (count + 1) same ∙ ap (λ (n : ℕ). n + 1) (is ∙ sym (begins_are rows)),
    λ next. ap (λ (n : ℕ). n == count + 1) (next ∙ ap (λ (n : ℕ). n + 1) (begins_are rows ∙ sym is)) ∙ same_itself (count + 1),
  )

  pub on_fits : (rows : List Row) (moment : ℕ) → IsTrue (list_all (is_earlier_on moment) rows) ↔ Fits (facts_of run asks blocks rows) (fact_of run asks blocks (row.On moment))
  on_fits rows moment = (later_of moment rows, of_later moment rows)

  pub taken_fits : (rows : List Row) (client id : ℕ)
      → IsTrue (list_any (is_beginning id) rows && (ask_of asks id).client == client && list_any (is_landing id) rows && not (list_any (is_taking id) rows)) ↔ Fits (facts_of run asks blocks rows) (fact_of run asks blocks (row.Taken client id))
  taken_fits rows client id = (to, from)
    where
      to : IsTrue (list_any (is_beginning id) rows && (ask_of asks id).client == client && list_any (is_landing id) rows && not (list_any (is_taking id) rows)) → TakenOnce (facts_of run asks blocks rows) (record (request_in run asks blocks id) { client = client })
      to is =
          let three = and_parts (list_any (is_beginning id) rows && (ask_of asks id).client == client && list_any (is_landing id) rows) (not (list_any (is_taking id) rows)) is in
          let two = and_parts (list_any (is_beginning id) rows && (ask_of asks id).client == client) (list_any (is_landing id) rows) three.0 in
          let one = and_parts (list_any (is_beginning id) rows) ((ask_of asks id).client == client) two.0 in
          let own = eqb-true (ask_of asks id).client client one.1 in
          record {
            began = subst (λ (n : ℕ). IsInList (Begun (record (request_in run asks blocks id) { client = n })) (facts_of run asks blocks rows)) own (began_of id rows one.0);
            answered = landing_is (record (request_in run asks blocks id) { client = client }) rows refl ∙ two.1;
            first = taking_is (record (request_in run asks blocks id) { client = client }) rows refl ∙ not-true (list_any (is_taking id) rows) three.1;
          }

      from : TakenOnce (facts_of run asks blocks rows) (record (request_in run asks blocks id) { client = client }) → IsTrue (list_any (is_beginning id) rows && (ask_of asks id).client == client && list_any (is_landing id) rows && not (list_any (is_taking id) rows))
      from once =
          let began = row_of_begun (record (request_in run asks blocks id) { client = client }) rows once.began in
          let own : client ≡ (ask_of asks id).client = ap (λ (r : Request). r.client) began.1 in
          and_from (list_any (is_beginning id) rows && (ask_of asks id).client == client && list_any (is_landing id) rows) (not (list_any (is_taking id) rows))
          (and_from (list_any (is_beginning id) rows && (ask_of asks id).client == client) (list_any (is_landing id) rows)
          (and_from (list_any (is_beginning id) rows) ((ask_of asks id).client == client) began.0 (ap (λ (n : ℕ). n == client) (sym own) ∙ same_itself client))
          (sym (landing_is (record (request_in run asks blocks id) { client = client }) rows refl) ∙ once.answered))
          (not_from_false (list_any (is_taking id) rows) (sym (taking_is (record (request_in run asks blocks id) { client = client }) rows refl) ∙ once.first))

  kind_of : (how : Outcome) (started : Bool) (r : Request) → IsTrue (is_kind how r.write started) → IsOutcomeOf how r started
  kind_of outcome.Done started r is = is
  kind_of outcome.Lost started r is = is
  kind_of outcome.Got started r is = no_of r.write is
    where
      no_of : (a : Bool) → IsTrue (not a) → IsFalse a
      no_of a is = not-true a is
  kind_of outcome.ReadFailed started r is = not-true r.write is
  kind_of outcome.NoFresh started r is = not-true started is
  kind_of outcome.Off started r is = tt
  kind_of outcome.Dark started r is = tt

  of_kind : (how : Outcome) (started : Bool) (r : Request) → IsOutcomeOf how r started → IsTrue (is_kind how r.write started)
  of_kind outcome.Done started r is = is
  of_kind outcome.Lost started r is = is
  of_kind outcome.Got started r is = not_from_false r.write is
  of_kind outcome.ReadFailed started r is = not_from_false r.write is
  of_kind outcome.NoFresh started r is = not_from_false started is
  of_kind outcome.Off started r is = refl
  of_kind outcome.Dark started r is = refl

  -- what may land: an open request of this kind, with blocks that it may have got
  pub ends_of : (rows : List Row) (id : ℕ) (how : Outcome) (started : Bool) (t : Bool)
      → t ≡ (list_any (is_beginning id) rows && not (list_any (is_landing id) rows) && is_kind how (ask_of asks id).write started)
      → Fits (facts_of run asks blocks rows) (fact_of run asks blocks (row.Landed id how started)) → IsTrue t
  ends_of rows id how started t is once =
      let began = row_of_begun (request_in run asks blocks id) rows once.began in
      is ∙ and_from (list_any (is_beginning id) rows && not (list_any (is_landing id) rows)) (is_kind how (ask_of asks id).write started)
      (and_from (list_any (is_beginning id) rows) (not (list_any (is_landing id) rows)) began.0 (not_from_false (list_any (is_landing id) rows) (sym (landing_is (request_in run asks blocks id) rows refl) ∙ once.first)))
      (of_kind how started (request_in run asks blocks id) once.kind)

  pub lands_of : (rows : List Row) (id : ℕ) (how : Outcome) (started : Bool) (t : Bool)
      → t ≡ (list_any (is_beginning id) rows && not (list_any (is_landing id) rows) && is_kind how (ask_of asks id).write started) → IsTrue t
      → GotMay (facts_of run asks blocks rows) (request_in run asks blocks id) how (cond (is_got how) (blocks_at blocks (ask_of asks id)) [])
      → Fits (facts_of run asks blocks rows) (fact_of run asks blocks (row.Landed id how started))
  lands_of rows id how started t is ends reads =
      let three = and_parts (list_any (is_beginning id) rows && not (list_any (is_landing id) rows)) (is_kind how (ask_of asks id).write started) (sym is ∙ ends) in
      let two = and_parts (list_any (is_beginning id) rows) (not (list_any (is_landing id) rows)) three.0 in
      record {
        began = began_of id rows two.0;
        first = landing_is (request_in run asks blocks id) rows refl ∙ not-true (list_any (is_landing id) rows) two.1;
        kind = kind_of how started (request_in run asks blocks id) three.1;
        reads = reads;
      }

  -- only a Got has blocks to be judged
  pub got_free : (past : List Fact) (r : Request) (how : Outcome) (got : List (List ℕ)) → is_got how ≡ false → GotMay past r how got
  got_free past r outcome.Got got isnt = absurd (let e : ◌≡◌ {A = Bool} true false = isnt in cc)
  got_free past r _ got isnt = tt

  pub got_judged : (past : List Fact) (r : Request) (how : Outcome) (got : List (List ℕ)) → is_got how ≡ true → Gets past r got ↔ GotMay past r how (cond (is_got how) got [])
  got_judged past r outcome.Got got is = (λ gets. gets, λ gets. gets)
  got_judged past r _ got is = absurd (let e : ◌≡◌ {A = Bool} false true = is in cc)

  -- block k of those at a request's place
  block_at : (a : Ask) (j : ℕ) → j < a.count → block_of (blocks_at blocks a) a.at (a.at + j) ≡ get_or blocks (a.place + j) []
  block_at a j less =
      let off : a.at + j - a.at ≡ j = omega arith in
      ap (λ (n : ℕ). get_or (take a.count (drop a.place blocks)) n []) off ∙ get_or-take a.count (drop a.place blocks) j [] less ∙ get_or-drop a.place blocks j []

  pub gets_from : (rows : List Row) (id : ℕ) (a : Ask) (n : ℕ) → a ≡ ask_of asks id → a.count ≤ length blocks - a.place → a.count ≤ n
      → ((j : ℕ) → j < n → May (known (facts_of run asks blocks rows) a.vol (a.at + j)) (get_or blocks (a.place + j) []))
      → Gets (facts_of run asks blocks rows) (request_in run asks blocks id) (blocks_at blocks (ask_of asks id))
  gets_from rows id a n is enough all may =
      record {
        whole = size (subst (λ (q : Ask). q.count ≤ length blocks - q.place) is enough);
        allowed = λ b low high. one (subst (λ (q : Ask). q.count ≤ n) is all)
            (subst (λ (q : Ask). (j : ℕ) → j < n → May (known (facts_of run asks blocks rows) q.vol (q.at + j)) (get_or blocks (q.place + j) [])) is may) b low high;
      }
    where
      size : (ask_of asks id).count ≤ length blocks - (ask_of asks id).place → length (blocks_at blocks (ask_of asks id)) ≡ (ask_of asks id).count
      size whole =
          let t = length-take (ask_of asks id).count (drop (ask_of asks id).place blocks) in
          let d = length-drop (ask_of asks id).place blocks in
          omega (arith, t, d, whole)

      one : (ask_of asks id).count ≤ n → ((j : ℕ) → j < n → May (known (facts_of run asks blocks rows) (ask_of asks id).vol ((ask_of asks id).at + j)) (get_or blocks ((ask_of asks id).place + j) []))
          → (b : ℕ) → (ask_of asks id).at ≤ b → b < (ask_of asks id).at + (ask_of asks id).count → May (known (facts_of run asks blocks rows) (ask_of asks id).vol b) (block_of (blocks_at blocks (ask_of asks id)) (ask_of asks id).at b)
      one more each b low high =
          let j : ℕ = b - (ask_of asks id).at in
          let at : (ask_of asks id).at + (b - (ask_of asks id).at) ≡ b = omega (arith, low) in
          let here = each (b - (ask_of asks id).at) (omega (arith, low, high, more)) in
          subst (λ (c : ℕ). May (known (facts_of run asks blocks rows) (ask_of asks id).vol c) (block_of (blocks_at blocks (ask_of asks id)) (ask_of asks id).at c)) at
          (subst (λ (v : List ℕ). May (known (facts_of run asks blocks rows) (ask_of asks id).vol ((ask_of asks id).at + (b - (ask_of asks id).at))) v) (sym (block_at (ask_of asks id) (b - (ask_of asks id).at) (omega (arith, low, high)))) here)

  pub gets_at : (rows : List Row) (id : ℕ) (a : Ask) (j : ℕ) → a ≡ ask_of asks id → j < a.count
      → Gets (facts_of run asks blocks rows) (request_in run asks blocks id) (blocks_at blocks (ask_of asks id))
      → May (known (facts_of run asks blocks rows) a.vol (a.at + j)) (get_or blocks (a.place + j) [])
  gets_at rows id a j is less gets =
      subst (λ (q : Ask). j < q.count → May (known (facts_of run asks blocks rows) q.vol (q.at + j)) (get_or blocks (q.place + j) [])) (sym is)
      (λ less. subst (λ (v : List ℕ). May (known (facts_of run asks blocks rows) (ask_of asks id).vol ((ask_of asks id).at + j)) v) (block_at (ask_of asks id) j less)
      (gets.allowed ((ask_of asks id).at + j) (omega arith) (omega (arith, less)))) less

  -- one row more of those that may follow
  pub legal_row : (rows : List Row) (k : ℕ) (d : Row) → k < length rows
      → LegalFrom (facts_of run asks blocks (take k rows)) (facts_of run asks blocks (drop k rows))
      ↔ (Fits (facts_of run asks blocks (take k rows)) (fact_of run asks blocks (get_or rows k d)) × LegalFrom (facts_of run asks blocks (take (k + 1) rows)) (facts_of run asks blocks (drop (k + 1) rows)))
  legal_row rows k d within =
      let front : facts_of run asks blocks (take (k + 1) rows) ≡ facts_of run asks blocks (take k rows) ++ fact_of run asks blocks (get_or rows k d) ∷ [] = map_more (fact_of run asks blocks) rows k d within in
      let rest : drop k rows ≡ get_or rows k d ∷ drop (k + 1) rows = drop_more rows k d within in (
        λ legal.
            let split = subst (λ (l : List Row). LegalFrom (facts_of run asks blocks (take k rows)) (facts_of run asks blocks l)) rest legal in
            (split.0, subst (λ (l : List Fact). LegalFrom l (facts_of run asks blocks (drop (k + 1) rows))) (sym front) split.1),
        λ both.
            subst (λ (l : List Row). LegalFrom (facts_of run asks blocks (take k rows)) (facts_of run asks blocks l)) (sym rest)
            (both.0, subst (λ (l : List Fact). LegalFrom l (facts_of run asks blocks (drop (k + 1) rows))) front both.1),
      )

-- each request is bounded, also one that there isn't
pub bounded_at : (asks : List Ask) (k : ℕ) → list_all is_bounded asks ≡ true → is_bounded (get_or asks k no_ask) ≡ true
bounded_at [] k all = refl
bounded_at (a ∷ asks) zero all = let both = and_parts (is_bounded a) (list_all is_bounded asks) all in both.0
bounded_at (a ∷ asks) (suc k) all = let both = and_parts (is_bounded a) (list_all is_bounded asks) all in bounded_at asks k both.1
