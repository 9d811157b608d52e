-- Which writes are open at a row, found on the way back along two chains.
use Rattle.std.proofs.Common.{◌≡◌, ◌==◌, ◌+◌, ◌-◌, ◌/◌, ◌<◌, ◌≤◌, ◌&&◌, ◌||◌, ◌∙◌, ℕ, zero, suc, Bool, true, false, not, List, [], ◌∷◌, refl, sym, ap, inl, inr, arith, length, take, drop, get_or, nat_lt}
use Rattle.std.specs.Prelude.{nat_le}
use Rattle.std.specs.List.{list_any}
use Rattle.std.proofs.lemmas.Bool.{and_parts, ltb-true, leb-true, lt-ltb, le-leb, cases_lt, cases_eq}
use Rattle.std.proofs.lemmas.List.{get_or_default, get_or-take, get_or-drop, length-take-le, length-drop}
use Rattle.std.proofs.lemmas.List.Folds.{list_any_at}
use Rattle.lvm_vol.proofs.passed.Num.{same_itself}
use Rattle.lvm_vol.specs.declared.entry.Vol.{Vol}
use Rattle.lvm_allowed.specs.declared.row.Ask.{Ask}
use Rattle.lvm_allowed.specs.declared.row.Row.{Row}
use Rattle.lvm_allowed.specs.declared.row.Row.TheVariants as row
use Rattle.lvm_chains.specs.declared.index.Step.{Step}
use Rattle.lvm_allowed.specs.declared.values.Sought.{Sought}
use Rattle.lvm_allowed.specs.Rows.{ask_of, is_landing}
use Rattle.lvm_allowed.specs.Fitting.{is_beginning}
use Rattle.lvm_allowed.specs.Seen.{is_over_ask, is_sought, is_ending, is_opening, id_of, is_any_open}
use Rattle.lvm_chains.specs.Places.{Indexed, IsIndexOf, IsOneOf, AreOf, AreInGroups, newest_by, no_step}
use Rattle.lvm_chains.specs.Along.{IsInTurn, is_closing, landed_among}
use Rattle.lvm_chains.proofs.NewestLemmas.{newest_at, none_behind}
use Rattle.lvm_chains.proofs.AlongLemmas.{IsQuiet, over_test}

-- ---- lists

any_alike : {X : Type 0} (d : X) (p q : X → Bool) (xs : List X) → ((i : ℕ) → i < length xs → p (get_or xs i d) ≡ q (get_or xs i d)) → list_any p xs ≡ list_any q xs
any_alike d p q [] same = refl
any_alike d p q (x ∷ xs) same =
    ap (λ (t : Bool). t || list_any p xs) (same zero (omega arith))
    ∙ ap (λ (t : Bool). q x || t) (any_alike d p q xs (λ i less. same (suc i) (omega (arith, less))))

-- where one stands that passes
record IsFound {X : Type 0} (d : X) (p : X → Bool) (xs : List X) : Type 0 where
  pub at : ℕ
  pub within : at < length xs
  pub passes : p (get_or xs at d) ≡ true

found : {X : Type 0} (d : X) (p : X → Bool) (xs : List X) → list_any p xs ≡ true → IsFound d p xs
found d p [] is = absurd (let e : ◌≡◌ {A = Bool} false true = is in cc)
found d p (x ∷ xs) is = by_test (p x) refl is (λ later. found d p xs later)
  where
    by_test : (t : Bool) → p x ≡ t → (t || list_any p xs) ≡ true → (list_any p xs ≡ true → IsFound d p xs) → IsFound d p (x ∷ xs)
    by_test true test some rest = record { at = zero; within = omega arith; passes = test }
    by_test false test some rest = let f = rest some in let less = f.within in record { at = suc f.at; within = omega (arith, less); passes = f.passes }

-- ---- a landing among the rows

named_at : (n : ℕ) (rows : List Row) (i : ℕ) → AreOf n rows → i < length rows → IsOneOf n (get_or rows i row.Cut)
named_at n [] i named less = absurd (omega arith)
named_at n (r ∷ rows) zero named less = named.0
named_at n (r ∷ rows) (suc i) named less = named_at n rows i named.1 (omega arith)

module _ (index : Indexed) (asks : List Ask) (rows : List Row) (indexed : IsIndexOf index asks rows) (in_turn : IsInTurn rows) where
  landed_there : (id place among : ℕ) → 1 ≤ id → id - 1 < length asks → place ≤ among → among ≤ length rows → landed_among index id place among ≡ list_any (is_landing id) (drop place (take among rows))
  landed_there id place among low high le within = by_any (list_any (is_landing id) (drop place (take among rows))) refl
    where
      its : ℕ
      its = (get_or index.steps (id - 1) no_step).landed

      own : id - 1 + 1 ≡ id
      own = omega (arith, low)

      its_is : (get_or index.steps (id - 1) no_step).landed ≡ newest_by (is_landing id) row.Cut rows (length rows)
      its_is = ap (λ (s : Step). s.landed) (indexed.its_steps (id - 1) high) ∙ ap (λ (n : ℕ). newest_by (is_landing n) row.Cut rows (length rows)) own

      size : length (drop place (take among rows)) ≡ among - place
      size = length-drop place (take among rows) ∙ ap (λ (n : ℕ). n - place) (length-take-le among rows within)

      there : (i : ℕ) → i < among - place → get_or (drop place (take among rows)) i row.Cut ≡ get_or rows (place + i) row.Cut
      there i less = get_or-drop place (take among rows) i row.Cut ∙ get_or-take among rows (place + i) row.Cut (omega (arith, less))

      by_place : (l j : ℕ) → (get_or index.steps (id - 1) no_step).landed ≡ l → place ≤ j → j < among → is_landing id (get_or rows j row.Cut) ≡ true → (nat_lt place l && nat_le l among) ≡ true
      by_place zero j is from to lands =
          let none = none_behind (is_landing id) row.Cut rows (length rows) j (let e = its_is in omega (arith, e, is)) (omega (arith, to, within)) in
          absurd (let e : ◌≡◌ {A = Bool} true false = sym lands ∙ none in cc)
      by_place (suc l) j is from to lands =
          let same : l ≡ j = in_turn.once id l j (newest_at (is_landing id) row.Cut rows (length rows) l (sym its_is ∙ is)) lands in
          ap (λ (t : Bool). t && nat_le (suc l) among) (lt-ltb place (suc l) (omega (arith, same, from))) ∙ le-leb (suc l) among (omega (arith, same, to))

      by_landed : (l : ℕ) → (get_or index.steps (id - 1) no_step).landed ≡ l → list_any (is_landing id) (drop place (take among rows)) ≡ false → (t : Bool) → (nat_lt place l && nat_le l among) ≡ t → t ≡ false
      by_landed l is none false test = refl
      by_landed zero is none true test =
          let two = and_parts (nat_lt place zero) (nat_le zero among) test in
          let less = ltb-true place zero two.0 in absurd (omega (arith, less))
      by_landed (suc l) is none true test =
          let two = and_parts (nat_lt place (suc l)) (nat_le (suc l) among) test in
          let from = ltb-true place (suc l) two.0 in let to = leb-true (suc l) among two.1 in
          let lands = newest_at (is_landing id) row.Cut rows (length rows) l (sym its_is ∙ is) in
          let back : place + (l - place) ≡ l = omega (arith, from) in
          let some = list_any_at (is_landing id) (drop place (take among rows)) (l - place) row.Cut (let n = size in omega (arith, n, from, to))
          (ap (is_landing id) (there (l - place) (omega (arith, from, to))) ∙ ap (λ (n : ℕ). is_landing id (get_or rows n row.Cut)) back ∙ lands) in
          absurd (let e : ◌≡◌ {A = Bool} true false = sym some ∙ none in cc)

      by_any : (t : Bool) → list_any (is_landing id) (drop place (take among rows)) ≡ t → landed_among index id place among ≡ t
      by_any true is =
          let f = found row.Cut (is_landing id) (drop place (take among rows)) is in
          let less : f.at < among - place = let n = size in let m = f.within in omega (arith, n, m) in
          by_place (get_or index.steps (id - 1) no_step).landed (place + f.at) refl (omega arith) (omega (arith, less)) (ap (is_landing id) (sym (there f.at less)) ∙ f.passes)
      by_any false is = by_landed (get_or index.steps (id - 1) no_step).landed refl is (landed_among index id place among) refl

-- ---- what ends a write

ending_parts : (n : ℕ) (vol : Vol) (b : ℕ) (r : Row) → is_closing vol b r ≡ false → is_ending n vol b r ≡ is_landing n r
ending_parts n vol b (row.Landed id how started) none = refl
ending_parts n vol b row.Cut none = none
ending_parts n vol b (row.Making lv size mode) none = none
ending_parts n vol b (row.Split from lv) none = none
ending_parts n vol b (row.Removed gone) none = none
ending_parts n vol b (row.Made lv) none = refl
ending_parts n vol b (row.Removing gone) none = refl
ending_parts n vol b (row.Begun id) none = refl
ending_parts n vol b (row.Taken client id) none = refl
ending_parts n vol b (row.On moment) none = refl

closing_ends : (n : ℕ) (vol : Vol) (b : ℕ) (r : Row) → is_closing vol b r ≡ true → is_ending n vol b r ≡ true
closing_ends n vol b row.Cut is = refl
closing_ends n vol b (row.Making lv size mode) is = is
closing_ends n vol b (row.Split from lv) is = is
closing_ends n vol b (row.Removed gone) is = is
closing_ends n vol b (row.Landed id how started) is = absurd (let e : ◌≡◌ {A = Bool} false true = is in cc)
closing_ends n vol b (row.Made lv) is = absurd (let e : ◌≡◌ {A = Bool} false true = is in cc)
closing_ends n vol b (row.Removing gone) is = absurd (let e : ◌≡◌ {A = Bool} false true = is in cc)
closing_ends n vol b (row.Begun id) is = absurd (let e : ◌≡◌ {A = Bool} false true = is in cc)
closing_ends n vol b (row.Taken client id) is = absurd (let e : ◌≡◌ {A = Bool} false true = is in cc)
closing_ends n vol b (row.On moment) is = absurd (let e : ◌≡◌ {A = Bool} false true = is in cc)

quiet_closes : (asks : List Ask) (vol : Vol) (b : ℕ) (r : Row) → IsQuiet asks vol b r → is_closing vol b r ≡ false
quiet_closes asks vol b (row.Making lv size mode) quiet = let e = quiet.calm in cc
quiet_closes asks vol b (row.Removed gone) quiet = let e = quiet.calm in cc
quiet_closes asks vol b (row.Split from lv) quiet = let e = quiet.calm in cc
quiet_closes asks vol b row.Cut quiet = let e = quiet.calm in cc
quiet_closes asks vol b (row.Landed id how started) quiet = refl
quiet_closes asks vol b (row.Made lv) quiet = refl
quiet_closes asks vol b (row.Removing gone) quiet = refl
quiet_closes asks vol b (row.Begun id) quiet = refl
quiet_closes asks vol b (row.Taken client id) quiet = refl
quiet_closes asks vol b (row.On moment) quiet = refl

and_none : (w s : Bool) → ((w && false) && s) ≡ false
and_none true s = refl
and_none false s = refl

-- ---- the walk

module _ (s : Sought) (asks : List Ask) (blocks : List (List ℕ)) (vol : Vol) (b : ℕ) (x : List ℕ) where
  quiet_opens : (r : Row) → AreInGroups asks → IsQuiet asks vol b r → is_opening s asks blocks vol b x r ≡ false
  quiet_opens (row.Begun id) groups quiet =
      let over : is_over_ask (ask_of asks id) vol b ≡ false = over_test (is_over_ask (ask_of asks id) vol b) (ask_of asks id) vol b refl (groups id) quiet.elsewhere in
      ap (λ (t : Bool). ((ask_of asks id).write && t) && is_sought s id (ask_of asks id) blocks b x) over ∙ and_none (ask_of asks id).write (is_sought s id (ask_of asks id) blocks b x)
  quiet_opens (row.Landed id how started) groups quiet = refl
  quiet_opens (row.Making lv size mode) groups quiet = refl
  quiet_opens (row.Removed gone) groups quiet = refl
  quiet_opens (row.Split from lv) groups quiet = refl
  quiet_opens row.Cut groups quiet = refl
  quiet_opens (row.Made lv) groups quiet = refl
  quiet_opens (row.Removing gone) groups quiet = refl
  quiet_opens (row.Taken client id) groups quiet = refl
  quiet_opens (row.On moment) groups quiet = refl

  closing_opens : (r : Row) → is_closing vol b r ≡ true → is_opening s asks blocks vol b x r ≡ false
  closing_opens (row.Begun id) is = absurd (let e : ◌≡◌ {A = Bool} false true = is in cc)
  closing_opens (row.Landed id how started) is = refl
  closing_opens (row.Making lv size mode) is = refl
  closing_opens (row.Removed gone) is = refl
  closing_opens (row.Split from lv) is = refl
  closing_opens row.Cut is = refl
  closing_opens (row.Made lv) is = refl
  closing_opens (row.Removing gone) is = refl
  closing_opens (row.Taken client id) is = refl
  closing_opens (row.On moment) is = refl

  -- at this place a write begins that is open after all the rows
  abbrev pub is_open_at : List Row → ℕ → Bool
  is_open_at rows i = is_opening s asks blocks vol b x (get_or rows i row.Cut) && not (list_any (is_ending (id_of (get_or rows i row.Cut)) vol b) (drop (suc i) rows))

  none_open : (rows : List Row) → ((i : ℕ) → i < length rows → is_open_at rows i ≡ false) → is_any_open s asks blocks vol b x rows ≡ false
  none_open [] none = refl
  none_open (r ∷ rows) none =
      ap (λ (t : Bool). t || is_any_open s asks blocks vol b x rows) (none zero (omega arith))
      ∙ none_open rows (λ i less. none (suc i) (omega (arith, less)))

  some_open : (rows : List Row) (i : ℕ) → i < length rows → is_open_at rows i ≡ true → is_any_open s asks blocks vol b x rows ≡ true
  some_open [] i less is = absurd (omega arith)
  some_open (r ∷ rows) zero less is = ap (λ (t : Bool). t || is_any_open s asks blocks vol b x rows) is
  some_open (r ∷ rows) (suc i) less is =
      ap (λ (t : Bool). (is_opening s asks blocks vol b x r && not (list_any (is_ending (id_of r) vol b) rows)) || t) (some_open rows i (omega arith) is) ∙ or_true (is_opening s asks blocks vol b x r && not (list_any (is_ending (id_of r) vol b) rows))
    where
      or_true : (t : Bool) → (t || true) ≡ true
      or_true true = refl
      or_true false = refl

  -- from a place on none is open after the first so many, and none of these rows ends all
  pub record IsSearched (rows : List Row) (among place : ℕ) : Type 0 where
    pub within : place ≤ among
    pub none : (i : ℕ) → place ≤ i → i < among → is_open_at (take among rows) i ≡ false
    pub unclosed : (i : ℕ) → place ≤ i → i < among → is_closing vol b (get_or rows i row.Cut) ≡ false

  module _ (rows : List Row) (among : ℕ) (all : among ≤ length rows) where
    pub searched_start : IsSearched rows among among
    searched_start = record { within = omega arith; none = λ i from to. absurd (omega arith); unclosed = λ i from to. absurd (omega arith) }

    pub searched_quiet : (place to : ℕ) → AreInGroups asks → IsSearched rows among place → to ≤ place → ((i : ℕ) → to ≤ i → i < place → IsQuiet asks vol b (get_or rows i row.Cut)) → IsSearched rows among to
    searched_quiet place to groups searched le quiet = let high = searched.within in record {
      within = omega (arith, le, high);
      none = λ i from less. elim (cases_lt i place) [
        | inl early ↦
            ap (λ (r : Row). is_opening s asks blocks vol b x r && not (list_any (is_ending (id_of r) vol b) (drop (suc i) (take among rows)))) (get_or-take among rows i row.Cut less)
            ∙ ap (λ (t : Bool). t && not (list_any (is_ending (id_of (get_or rows i row.Cut)) vol b) (drop (suc i) (take among rows)))) (quiet_opens (get_or rows i row.Cut) groups (quiet i from early))
        | inr late ↦ searched.none i late less
      ];
      unclosed = λ i from less. elim (cases_lt i place) [
        | inl early ↦ quiet_closes asks vol b (get_or rows i row.Cut) (quiet i from early)
        | inr late ↦ searched.unclosed i late less
      ];
    }

    -- the rows behind a place, of which none ends all, end what lands there alone
    ended_there : (id place : ℕ) → IsSearched rows among place → list_any (is_ending id vol b) (drop place (take among rows)) ≡ list_any (is_landing id) (drop place (take among rows))
    ended_there id place searched =
        any_alike row.Cut (is_ending id vol b) (is_landing id) (drop place (take among rows))
        (λ i less.
        let size : length (drop place (take among rows)) ≡ among - place = length-drop place (take among rows) ∙ ap (λ (n : ℕ). n - place) (length-take-le among rows all) in
        let there : get_or (drop place (take among rows)) i row.Cut ≡ get_or rows (place + i) row.Cut = get_or-drop place (take among rows) i row.Cut ∙ get_or-take among rows (place + i) row.Cut (omega (arith, less, size)) in
        ending_parts id vol b (get_or (drop place (take among rows)) i row.Cut)
        (ap (is_closing vol b) there ∙ searched.unclosed (place + i) (omega arith) (omega (arith, less, size))))

    module _ (index : Indexed) (indexed : IsIndexOf index asks rows) (in_turn : IsInTurn rows) where
      open_row : (place : ℕ) (r : Row) → IsSearched rows among place → IsOneOf (length asks) r → ((id : ℕ) → is_beginning id r ≡ true → 1 ≤ id)
          → (is_opening s asks blocks vol b x r && not (list_any (is_ending (id_of r) vol b) (drop place (take among rows))))
          ≡ (is_opening s asks blocks vol b x r && not (landed_among index (id_of r) place among))
      open_row place (row.Begun id) searched one numbered =
          ap (λ (t : Bool). is_opening s asks blocks vol b x (row.Begun id) && not t)
          (ended_there id place searched ∙ sym (landed_there index asks rows indexed in_turn id place among (numbered id (same_itself id)) one searched.within all))
      open_row place (row.Landed id how started) searched one numbered = refl
      open_row place (row.Making lv size mode) searched one numbered = refl
      open_row place (row.Removed gone) searched one numbered = refl
      open_row place (row.Split from lv) searched one numbered = refl
      open_row place row.Cut searched one numbered = refl
      open_row place (row.Made lv) searched one numbered = refl
      open_row place (row.Removing gone) searched one numbered = refl
      open_row place (row.Taken client id) searched one numbered = refl
      open_row place (row.On moment) searched one numbered = refl

      -- at the row before the place
      open_there : (place i : ℕ) → place ≡ suc i → IsSearched rows among place
          → is_open_at (take among rows) i ≡ (is_opening s asks blocks vol b x (get_or rows i row.Cut) && not (landed_among index (id_of (get_or rows i row.Cut)) place among))
      open_there place i is searched =
          let high = searched.within in
          ap (λ (r : Row). is_opening s asks blocks vol b x r && not (list_any (is_ending (id_of r) vol b) (drop (suc i) (take among rows)))) (get_or-take among rows i row.Cut (omega (arith, is, high)))
          ∙ ap (λ (n : ℕ). is_opening s asks blocks vol b x (get_or rows i row.Cut) && not (list_any (is_ending (id_of (get_or rows i row.Cut)) vol b) (drop n (take among rows)))) (sym is)
          ∙ open_row place (get_or rows i row.Cut) searched (named_at (length asks) rows i indexed.named (omega (arith, is, high, all))) (λ id begins. in_turn.numbered id i begins)

      at_place : (place i : ℕ) (d : Row) (opens : Bool) → place ≡ suc i → IsSearched rows among place
          → opens ≡ (is_opening s asks blocks vol b x (get_or rows i d) && not (landed_among index (id_of (get_or rows i d)) place among)) → is_open_at (take among rows) i ≡ opens
      at_place place i d opens is searched told =
          let high = searched.within in
          open_there place i is searched
          ∙ ap (λ (r : Row). is_opening s asks blocks vol b x r && not (landed_among index (id_of r) place among)) (get_or_default rows i row.Cut d (omega (arith, is, high, all)))
          ∙ sym told

      pub found_open : (place i : ℕ) (d : Row) (opens : Bool) → place ≡ suc i → IsSearched rows among place
          → opens ≡ (is_opening s asks blocks vol b x (get_or rows i d) && not (landed_among index (id_of (get_or rows i d)) place among)) → opens ≡ true → true ≡ is_any_open s asks blocks vol b x (take among rows)
      found_open place i d opens is searched told yes_it_is =
          let high = searched.within in
          sym (some_open (take among rows) i (let n = length-take-le among rows all in omega (arith, n, is, high)) (at_place place i d opens is searched told ∙ yes_it_is))

      pub searched_row : (place i : ℕ) (d : Row) (opens closes : Bool) → place ≡ suc i → IsSearched rows among place
          → opens ≡ (is_opening s asks blocks vol b x (get_or rows i d) && not (landed_among index (id_of (get_or rows i d)) place among)) → opens ≡ false
          → closes ≡ is_closing vol b (get_or rows i d) → closes ≡ false → IsSearched rows among i
      searched_row place i d opens closes is searched told no_it_isnt closing unclosed = let high = searched.within in record {
        within = omega (arith, is, high);
        none = λ j from less. elim (cases_eq j i) [
          | inl same ↦ ap (λ (n : ℕ). is_open_at (take among rows) n) same ∙ at_place place i d opens is searched told ∙ no_it_isnt
          | inr other ↦ searched.none j (omega (arith, is, from, other)) less
        ];
        unclosed = λ j from less. elim (cases_eq j i) [
          | inl same ↦ ap (λ (n : ℕ). is_closing vol b (get_or rows n row.Cut)) same ∙ ap (is_closing vol b) (get_or_default rows i row.Cut d (omega (arith, is, high, all))) ∙ sym closing ∙ unclosed
          | inr other ↦ searched.unclosed j (omega (arith, is, from, other)) less
        ];
      }

    pub none_before : (place i : ℕ) (d : Row) (closes : Bool) → place ≡ suc i → IsSearched rows among place → closes ≡ is_closing vol b (get_or rows i d) → closes ≡ true → false ≡ is_any_open s asks blocks vol b x (take among rows)
    none_before place i d closes is searched closing closed =
        sym (none_open (take among rows) (λ j less. at j (let n = length-take-le among rows all in omega (arith, n, less))))
      where
        high : place ≤ among
        high = searched.within

        its : is_closing vol b (get_or rows i row.Cut) ≡ true
        its = ap (is_closing vol b) (get_or_default rows i row.Cut d (omega (arith, is, high, all))) ∙ sym closing ∙ closed

        and_not : (t : Bool) → (t && not true) ≡ false
        and_not true = refl
        and_not false = refl

        at : (j : ℕ) → j < among → is_open_at (take among rows) j ≡ false
        at j less = elim (cases_lt j i) [
          | inl early ↦
              let id : ℕ = id_of (get_or (take among rows) j row.Cut) in
              let ends : list_any (is_ending (id_of (get_or (take among rows) j row.Cut)) vol b) (drop (suc j) (take among rows)) ≡ true =
              list_any_at (is_ending (id_of (get_or (take among rows) j row.Cut)) vol b) (drop (suc j) (take among rows)) (i - suc j) row.Cut
              (let n = length-drop (suc j) (take among rows) in let m = length-take-le among rows all in omega (arith, n, m, early, is, high))
              (ap (is_ending (id_of (get_or (take among rows) j row.Cut)) vol b)
              (get_or-drop (suc j) (take among rows) (i - suc j) row.Cut ∙ ap (λ (n : ℕ). get_or (take among rows) n row.Cut) (let e : suc j + (i - suc j) ≡ i = omega (arith, early) in e) ∙ get_or-take among rows i row.Cut (omega (arith, is, high)))
              ∙ closing_ends (id_of (get_or (take among rows) j row.Cut)) vol b (get_or rows i row.Cut) its) in
              ap (λ (t : Bool). is_opening s asks blocks vol b x (get_or (take among rows) j row.Cut) && not t) ends ∙ and_not (is_opening s asks blocks vol b x (get_or (take among rows) j row.Cut))
          | inr late ↦ elim (cases_eq j i) [
            | inl same ↦
                ap (λ (t : Bool). t && not (list_any (is_ending (id_of (get_or (take among rows) j row.Cut)) vol b) (drop (suc j) (take among rows))))
                (ap (is_opening s asks blocks vol b x) (get_or-take among rows j row.Cut less ∙ ap (λ (n : ℕ). get_or rows n row.Cut) same) ∙ closing_opens (get_or rows i row.Cut) its)
            | inr other ↦ searched.none j (omega (arith, is, late, other)) less
          ]
        ]

    pub none_at_all : (place : ℕ) → place ≡ 0 → IsSearched rows among place → false ≡ is_any_open s asks blocks vol b x (take among rows)
    none_at_all place is searched =
        sym (none_open (take among rows) (λ j less. searched.none j (omega (arith, is)) (let n = length-take-le among rows all in omega (arith, n, less))))
