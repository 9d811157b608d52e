-- What holds of the facts of one run, each of which follows those before it.
use Rattle.std.proofs.Common.{◌≡◌, ◌⊎◌, inl, inr, ⊎_elim, ℕ, ◌+◌, ◌-◌, ◌≤◌, ◌<◌, ◌&&◌, ◌||◌, ◌==◌, Bool, true, false, cond, List, [], ◌∷◌, ◌++◌, length, get_or, Option, Some, None, refl, sym, ◌∙◌, ap, subst, arith, append_assoc, length-append, suc}
use Rattle.std.specs.List.{list_any, filter_map, cons_option}
use Rattle.std.proofs.lemmas.List.{append-nil}
use Rattle.std.proofs.lemmas.List.Folds.{list_any-append}
use Rattle.std.proofs.lemmas.List.Elements.{filter_map-append}
use Rattle.std.proofs.lemmas.Bool.Decides.{nat_tests}
use Rattle.std.proofs.lemmas.Bool.{eqb-true, or_cases}
use Rattle.lvm_num.proofs.Booleans.{first_fails, second_fails}
use Rattle.lvm_vol.specs.declared.entry.Outcome.{Outcome}
use Rattle.lvm_vol.specs.Facts.{Request, Fact, Making, Made, Split, Removing, Removed, Begun, Landed, Taken, Cut, On, IsInList, begun, begun_by}
use Rattle.lvm_vol.specs.Log.{lands_id, takes_id, is_got, got_by}
use Rattle.lvm_vol.specs.Order.{Follows, Ordered, HasItsData, IsGotOf}

module _ {X : Type 0} where
  pub stands-push : (xs : List X) (x y : X) → IsInList y (xs ++ x ∷ []) → IsInList y xs ⊎ (x ≡ y)
  stands-push [] x y (inl is) = inr is
  stands-push [] x y (inr none) = absurd none
  stands-push (z ∷ xs) x y (inl is) = inl (inl is)
  stands-push (z ∷ xs) x y (inr there) = ⊎_elim (λ old. inl (inr old)) (λ new. inr new) (stands-push xs x y there)

  pub stands_last : (xs : List X) (x : X) → IsInList x (xs ++ x ∷ [])
  stands_last [] x = inl refl
  stands_last (y ∷ xs) x = inr (stands_last xs x)

  pub stands_left : (xs ys : List X) (x : X) → IsInList x xs → IsInList x (xs ++ ys)
  stands_left [] ys x none = absurd none
  stands_left (y ∷ xs) ys x (inl is) = inl is
  stands_left (y ∷ xs) ys x (inr there) = inr (stands_left xs ys x there)

pub any-push : {X : Type 0} (t : X → Bool) (xs : List X) (x : X) → list_any t (xs ++ x ∷ []) ≡ (list_any t xs || t x)
any-push t xs x = list_any-append t xs (x ∷ []) ∙ ap (λ b. list_any t xs || b) (or-false (t x))
  where
    or-false : (b : Bool) → (b || false) ≡ b
    or-false true = refl
    or-false false = refl

-- one fact more that follows
pub ordered-push : (run : ℕ) (past facts : List Fact) (f : Fact) → Ordered run past facts → Follows run (past ++ facts) f → Ordered run past (facts ++ f ∷ [])
ordered-push run past [] f ordered follows = (subst (λ (l : List Fact). Follows run l f) (append-nil past) follows, tt)
ordered-push run past (g ∷ facts) f ordered follows =
    (ordered.0, ordered-push run (past ++ g ∷ []) facts f ordered.1 (subst (λ (l : List Fact). Follows run l f) (sym (append_assoc past (g ∷ []) facts)) follows))

-- what each step keeps holds at the end
pub grow : (run : ℕ) (Q : List Fact → Type 0) → ((past : List Fact) (f : Fact) → Q past → Follows run past f → Q (past ++ f ∷ []))
    → (past facts : List Fact) → Q past → Ordered run past facts → Q (past ++ facts)
grow run Q step past [] q ordered = subst Q (sym (append-nil past)) q
grow run Q step past (f ∷ facts) q ordered = subst Q (append_assoc past (f ∷ []) facts) (grow run Q step (past ++ f ∷ []) facts (step past f q ordered.0) ordered.1)

pub begun-push : (facts : List Fact) (f : Fact) → begun (facts ++ f ∷ []) ≡ begun facts ++ cons_option (begun_by f) []
begun-push facts f = filter_map-append begun_by facts (f ∷ [])

-- the numbers rise by one from n
abbrev pub IdsFrom : ℕ → List Request → Type 0
IdsFrom n [] = Unit {0}
IdsFrom n (r ∷ rs) = (r.id ≡ n) × IdsFrom (n + 1) rs

ids-push : (n : ℕ) (rs : List Request) (r : Request) → IdsFrom n rs → r.id ≡ n + length rs → IdsFrom n (rs ++ r ∷ [])
ids-push n [] r ids is = (omega arith, tt)
ids-push n (s ∷ rs) r ids is = (ids.0, ids-push (n + 1) rs r ids.1 (omega arith))

-- each request stands at its number
pub record StandsAt (n : ℕ) (rs : List Request) (r : Request) : Type 0 where
  pub low : n ≤ r.id
  pub high : r.id < n + length rs
  pub here : (d : Request) → get_or rs (r.id - n) d ≡ r

pub stands-at : (n : ℕ) (rs : List Request) (r : Request) → IdsFrom n rs → IsInList r rs → StandsAt n rs r
stands-at n [] r ids none = absurd none
stands-at n (s ∷ rs) r ids (inl is) =
    let own : r.id ≡ n = ap (λ (q : Request). q.id) (sym is) ∙ ids.0 in
    let none : r.id - n ≡ 0 = omega arith in
    record { low = omega arith; high = omega arith; here = λ d. ap (λ (k : ℕ). get_or (s ∷ rs) k d) none ∙ is }
stands-at n (s ∷ rs) r ids (inr there) =
    let later = stands-at (n + 1) rs r ids.1 there in
    let low = later.low in let high = later.high in
    let at : r.id - n ≡ suc (r.id - (n + 1)) = omega arith in
    record { low = omega arith; high = omega arith; here = λ d. ap (λ (k : ℕ). get_or (s ∷ rs) k d) at ∙ later.here d }

pub stands-cons_option : (o : Option Request) (rs : List Request) (r : Request) → IsInList r rs → IsInList r (cons_option o rs)
stands-cons_option None rs r there = there
stands-cons_option (Some s) rs r there = inr there

pub stands_begun : (facts : List Fact) (r : Request) → IsInList (Begun r) facts → IsInList r (begun facts)
stands_begun [] r none = absurd none
stands_begun (f ∷ facts) r (inl is) = subst (λ (g : Fact). IsInList r (cons_option (begun_by g) (begun facts))) (sym is) (inl refl)
stands_begun (f ∷ facts) r (inr there) = stands-cons_option (begun_by f) (begun facts) r (stands_begun facts r there)

got_none : (id : ℕ) (f : Fact) → lands_id id f ≡ false → got_by id f ≡ None
got_none id (Landed r how started got) other = if_none (is_got how) (r.id == id) got other
  where
    if_none : (a b : Bool) (got : List (List ℕ)) → b ≡ false → cond (a && b) (Some got) None ≡ None
    if_none true false got is = refl
    if_none false b got is = refl
    if_none true true got is = absurd (cc)
got_none id _ other = refl

-- what hasn't landed has got nothing
pub got_nothing : (id : ℕ) (facts : List Fact) → list_any (lands_id id) facts ≡ false → filter_map (got_by id) facts ≡ []
got_nothing id [] none = refl
got_nothing id (f ∷ facts) none =
    ap (λ (o : Option (List (List ℕ))). cons_option o (filter_map (got_by id) facts)) (got_none id f (first_fails (lands_id id f) (list_any (lands_id id) facts) none))
    ∙ got_nothing id facts (second_fails (lands_id id f) (list_any (lands_id id) facts) none)

pub got-push : (id : ℕ) (facts : List Fact) (f : Fact) → filter_map (got_by id) (facts ++ f ∷ []) ≡ filter_map (got_by id) facts ++ cons_option (got_by id f) []
got-push id facts f = filter_map-append (got_by id) facts (f ∷ [])

pub got_same : (id : ℕ) (facts : List Fact) (f : Fact) → got_by id f ≡ None → filter_map (got_by id) (facts ++ f ∷ []) ≡ filter_map (got_by id) facts
got_same id facts f none = got-push id facts f ∙ ap (λ (o : Option (List (List ℕ))). filter_map (got_by id) facts ++ cons_option o []) none ∙ append-nil (filter_map (got_by id) facts)

-- what a request that landed is, and what it got
pub record IsAnswer (facts : List Fact) (r : Request) (how : Outcome) (got : List (List ℕ)) : Type 0 where
  pub began : IsInList r (begun facts)
  pub its_got : IsGotOf r how got
  pub only : is_got how ≡ true → filter_map (got_by r.id) facts ≡ got ∷ []

pub record IsNumbered (run : ℕ) (facts : List Fact) : Type 0 where
  pub ids : IdsFrom 1 (begun facts)
  pub runs : (r : Request) → IsInList r (begun facts) → r.run ≡ run
  pub whole : (r : Request) → IsInList r (begun facts) → HasItsData r
  pub landed : (r : Request) (how : Outcome) (started : Bool) (got : List (List ℕ)) → IsInList (Landed r how started got) facts → IsAnswer facts r how got
  pub taken : (r : Request) → IsInList (Taken r) facts → IsInList r (begun facts)
  pub lands : (id : ℕ) → list_any (lands_id id) facts ≡ true → (1 ≤ id) × (id ≤ length (begun facts))
  pub takes : (id : ℕ) → list_any (takes_id id) facts ≡ true → list_any (lands_id id) facts ≡ true

pub numbered_none : (run : ℕ) → IsNumbered run []
numbered_none run = record {
  ids = tt;
  runs = λ r none. absurd none;
  whole = λ r none. absurd none;
  landed = λ r how started got none. absurd none;
  taken = λ r none. absurd none;
  lands = λ id none. absurd (let e : ◌≡◌ {A = Bool} false true = none in cc);
  takes = λ id none. absurd (let e : ◌≡◌ {A = Bool} false true = none in cc);
}

-- the fact isn't about a request
pub record IsAside (f : Fact) : Type 0 where
  pub begins : begun_by f ≡ None
  pub lands : (id : ℕ) → lands_id id f ≡ false
  pub takes : (id : ℕ) → takes_id id f ≡ false
  pub not_landed : (r : Request) (how : Outcome) (started : Bool) (got : List (List ℕ)) → f ≡ Landed r how started got → ⊥
  pub not_taken : (r : Request) → f ≡ Taken r → ⊥

module _ (run : ℕ) where
  begun_same : (past : List Fact) (f : Fact) → begun_by f ≡ None → begun (past ++ f ∷ []) ≡ begun past
  begun_same past f none = begun-push past f ∙ ap (λ (o : Option Request). begun past ++ cons_option o []) none ∙ append-nil (begun past)

  any_same : (t : Fact → Bool) (past : List Fact) (f : Fact) → t f ≡ false → list_any t (past ++ f ∷ []) ≡ list_any t past
  any_same t past f none = any-push t past f ∙ ap (λ (b : Bool). list_any t past || b) none ∙ or-false (list_any t past)
    where
      or-false : (b : Bool) → (b || false) ≡ b
      or-false true = refl
      or-false false = refl

  -- What a fact keeps that begins nothing, if it gives nothing to what has landed, and what lands and is taken with it was begun.
  step_beside : (past : List Fact) (f : Fact) → begun_by f ≡ None → IsNumbered run past
      → ((r : Request) (how : Outcome) (started : Bool) (got : List (List ℕ)) → IsInList (Landed r how started got) past → got_by r.id f ≡ None)
      → ((r : Request) (how : Outcome) (started : Bool) (got : List (List ℕ)) → f ≡ Landed r how started got → IsAnswer (past ++ f ∷ []) r how got)
      → ((r : Request) → f ≡ Taken r → IsInList r (begun past))
      → ((id : ℕ) → list_any (lands_id id) (past ++ f ∷ []) ≡ true → (1 ≤ id) × (id ≤ length (begun past)))
      → ((id : ℕ) → list_any (takes_id id) (past ++ f ∷ []) ≡ true → list_any (lands_id id) (past ++ f ∷ []) ≡ true)
      → IsNumbered run (past ++ f ∷ [])
  step_beside past f none q gives_none landed taken lands takes =
      let b = begun_same past f none in
      record {
        ids = subst (λ (rs : List Request). IdsFrom 1 rs) (sym b) q.ids;
        runs = λ r there. q.runs r (subst (λ (rs : List Request). IsInList r rs) b there);
        whole = λ r there. q.whole r (subst (λ (rs : List Request). IsInList r rs) b there);
        landed = λ r how started got there. ⊎_elim
            (λ old. let was = q.landed r how started got old in record {
              began = subst (λ (rs : List Request). IsInList r rs) (sym b) was.began;
              its_got = was.its_got;
              only = λ g. got_same r.id past f (gives_none r how started got old) ∙ was.only g;
            })
            (λ new. landed r how started got new)
            (stands-push past f (Landed r how started got) there);
        taken = λ r there. subst (λ (rs : List Request). IsInList r rs) (sym b) (⊎_elim (λ old. q.taken r old) (λ new. taken r new) (stands-push past f (Taken r) there));
        lands = λ id is. subst (λ (rs : List Request). (1 ≤ id) × (id ≤ length rs)) (sym b) (lands id is);
        takes = takes;
      }

  step_aside : (past : List Fact) (f : Fact) → IsAside f → IsNumbered run past → IsNumbered run (past ++ f ∷ [])
  step_aside past f aside q =
      step_beside past f aside.begins q
      (λ r how started got old. got_none r.id f (aside.lands r.id))
      (λ r how started got new. absurd (aside.not_landed r how started got new))
      (λ r new. absurd (aside.not_taken r new))
      (λ id is. q.lands id (sym (any_same (lands_id id) past f (aside.lands id)) ∙ is))
      (λ id is. any_same (lands_id id) past f (aside.lands id) ∙ q.takes id (sym (any_same (takes_id id) past f (aside.takes id)) ∙ is))

  step_begun : (past : List Fact) (r : Request) → IsNumbered run past → Follows run past (Begun r) → IsNumbered run (past ++ Begun r ∷ [])
  step_begun past r q follows =
      let b : begun (past ++ Begun r ∷ []) ≡ begun past ++ r ∷ [] = begun-push past (Begun r) in
      let next : r.id ≡ length (begun past) + 1 = follows.1 in
      record {
        ids = subst (λ (rs : List Request). IdsFrom 1 rs) (sym b) (ids-push 1 (begun past) r q.ids (omega arith));
        runs = λ s there. ⊎_elim (λ old. q.runs s old) (λ new. ap (λ (x : Request). x.run) (sym new) ∙ follows.0)
            (stands-push (begun past) r s (subst (λ (rs : List Request). IsInList s rs) b there));
        whole = λ s there. ⊎_elim (λ old. q.whole s old) (λ new. subst HasItsData new follows.2)
            (stands-push (begun past) r s (subst (λ (rs : List Request). IsInList s rs) b there));
        landed = λ s how started got there. ⊎_elim
            (λ old. let was = q.landed s how started got old in record {
              began = subst (λ (rs : List Request). IsInList s rs) (sym b) (stands_left (begun past) (r ∷ []) s was.began);
              its_got = was.its_got;
              only = λ g. got_same s.id past (Begun r) refl ∙ was.only g;
            })
            (λ new. absurd (cc new))
            (stands-push past (Begun r) (Landed s how started got) there);
        taken = λ s there. ⊎_elim
            (λ old. subst (λ (rs : List Request). IsInList s rs) (sym b) (stands_left (begun past) (r ∷ []) s (q.taken s old)))
            (λ new. absurd (cc new))
            (stands-push past (Begun r) (Taken s) there);
        lands = λ id is.
            let was = q.lands id (sym (any_same (lands_id id) past (Begun r) refl) ∙ is) in
            let n : length (begun (past ++ Begun r ∷ [])) ≡ length (begun past) + 1 = ap length b ∙ length-append (begun past) (r ∷ []) in
            let low = was.0 in let high = was.1 in
            (low, omega (arith, n, high));
        takes = λ id is. any_same (lands_id id) past (Begun r) refl ∙ q.takes id (sym (any_same (takes_id id) past (Begun r) refl) ∙ is);
      }

  landed_any : (facts : List Fact) (r : Request) (how : Outcome) (started : Bool) (got : List (List ℕ)) → IsInList (Landed r how started got) facts → list_any (lands_id r.id) facts ≡ true
  landed_any [] r how started got none = absurd none
  landed_any (f ∷ facts) r how started got (inl is) =
      let e : lands_id r.id f ≡ true = ap (λ (g : Fact). lands_id r.id g) is ∙ (let same : (r.id == r.id) ≡ true = grind (arith, nat_tests) in same) in
      ap (λ (b : Bool). b || list_any (lands_id r.id) facts) e
  landed_any (f ∷ facts) r how started got (inr there) = or_true (lands_id r.id f) (list_any (lands_id r.id) facts) (landed_any facts r how started got there)
    where
      or_true : (a b : Bool) → b ≡ true → (a || b) ≡ true
      or_true true b is = refl
      or_true false b is = is

  AnswerOf : List Fact → Fact → Type 0
  AnswerOf facts (Landed r how started got) = IsAnswer facts r how got
  AnswerOf facts _ = Unit {0}

  other_id : (a b : ℕ) (past : List Fact) → list_any (lands_id a) past ≡ false → list_any (lands_id b) past ≡ true → (a == b) ≡ false
  other_id a b past none some = elim_test (a == b) refl
    where
      elim_test : (t : Bool) → (a == b) ≡ t → t ≡ false
      elim_test false is = refl
      elim_test true is =
          let same : a ≡ b = eqb-true a b is in
          let e : list_any (lands_id a) past ≡ list_any (lands_id b) past = ap (λ (n : ℕ). list_any (lands_id n) past) same in
          absurd (cc)

  step_landed : (past : List Fact) (r : Request) (how : Outcome) (started : Bool) (got : List (List ℕ)) → IsNumbered run past → Follows run past (Landed r how started got) → IsNumbered run (past ++ Landed r how started got ∷ [])
  unfolding AnswerOf
  step_landed past r how started got q follows =
      let f : Fact = Landed r how started got in
      let began : IsInList r (begun past) = stands_begun past r follows.0 in
      step_beside past f refl q
      (λ s how' started' got' old. got_none s.id f (other_id r.id s.id past follows.1 (landed_any past s how' started' got' old)))
      (λ s how' started' got' new. subst (AnswerOf (past ++ f ∷ [])) new (own began (begun_same past f refl)))
      (λ s new. absurd (cc new))
      (λ id is. ⊎_elim
      (λ old. q.lands id old)
      (λ new. let at = stands-at 1 (begun past) r q.ids began in
      let same : r.id ≡ id = eqb-true r.id id new in
      let low = at.low in let high = at.high in
      (omega (arith, same, low), omega (arith, same, high)))
      (or_cases (list_any (lands_id id) past) (lands_id id f) (sym (any-push (lands_id id) past f) ∙ is)))
      (λ id is. any-push (lands_id id) past f ∙ ap (λ (t : Bool). t || lands_id id f) (q.takes id (sym (any_same (takes_id id) past f refl) ∙ is)))
    where
      own : IsInList r (begun past) → begun (past ++ Landed r how started got ∷ []) ≡ begun past → IsAnswer (past ++ Landed r how started got ∷ []) r how got
      own began b = record {
        began = subst (λ (rs : List Request). IsInList r rs) (sym b) began;
        its_got = follows.2;
        only = λ g.
            let same : (r.id == r.id) ≡ true = grind (arith, nat_tests) in
            let e : got_by r.id (Landed r how started got) ≡ Some got = ap (λ (t : Bool). cond (t && (r.id == r.id)) (Some got) None) g ∙ ap (λ (t : Bool). cond t (Some got) None) same in
            got-push r.id past (Landed r how started got)
            ∙ ap (λ (o : Option (List (List ℕ))). filter_map (got_by r.id) past ++ cons_option o []) e
            ∙ ap (λ (l : List (List (List ℕ))). l ++ got ∷ []) (got_nothing r.id past follows.1);
      }

  step_taken : (past : List Fact) (r : Request) → IsNumbered run past → Follows run past (Taken r) → IsNumbered run (past ++ Taken r ∷ [])
  step_taken past r q follows =
      let f : Fact = Taken r in
      step_beside past f refl q
      (λ s how started got old. refl)
      (λ s how started got new. absurd (cc new))
      (λ s new. subst (λ (x : Request). IsInList x (begun past)) (own_request new) (stands_begun past r follows.0))
      (λ id is. q.lands id (sym (any_same (lands_id id) past f refl) ∙ is))
      (λ id is. any_same (lands_id id) past f refl ∙ ⊎_elim
      (λ old. q.takes id old)
      (λ new. ap (λ (n : ℕ). list_any (lands_id n) past) (sym (eqb-true r.id id new)) ∙ follows.1)
      (or_cases (list_any (takes_id id) past) (takes_id id f) (sym (any-push (takes_id id) past f) ∙ is)))
    where
      own_request : {s : Request} → Taken r ≡ Taken s → r ≡ s
      own_request is = cc is

  pub numbered-push : (past : List Fact) (f : Fact) → IsNumbered run past → Follows run past f → IsNumbered run (past ++ f ∷ [])
  numbered-push past (Begun r) q follows = step_begun past r q follows
  numbered-push past (Landed r how started got) q follows = step_landed past r how started got q follows
  numbered-push past (Taken r) q follows = step_taken past r q follows
  numbered-push past (Making lv blocks m) q follows = step_aside past (Making lv blocks m) (record { begins = refl; lands = λ id. refl; takes = λ id. refl; not_landed = λ r how started got e. cc e; not_taken = λ r e. cc e }) q
  numbered-push past (Made lv) q follows = step_aside past (Made lv) (record { begins = refl; lands = λ id. refl; takes = λ id. refl; not_landed = λ r how started got e. cc e; not_taken = λ r e. cc e }) q
  numbered-push past (Split from lv) q follows = step_aside past (Split from lv) (record { begins = refl; lands = λ id. refl; takes = λ id. refl; not_landed = λ r how started got e. cc e; not_taken = λ r e. cc e }) q
  numbered-push past (Removing vol) q follows = step_aside past (Removing vol) (record { begins = refl; lands = λ id. refl; takes = λ id. refl; not_landed = λ r how started got e. cc e; not_taken = λ r e. cc e }) q
  numbered-push past (Removed vol) q follows = step_aside past (Removed vol) (record { begins = refl; lands = λ id. refl; takes = λ id. refl; not_landed = λ r how started got e. cc e; not_taken = λ r e. cc e }) q
  numbered-push past Cut q follows = step_aside past Cut (record { begins = refl; lands = λ id. refl; takes = λ id. refl; not_landed = λ r how started got e. cc e; not_taken = λ r e. cc e }) q
  numbered-push past (On moment) q follows = step_aside past (On moment) (record { begins = refl; lands = λ id. refl; takes = λ id. refl; not_landed = λ r how started got e. cc e; not_taken = λ r e. cc e }) q

  pub numbered : (facts : List Fact) → Ordered run [] facts → IsNumbered run facts
  numbered facts ordered = grow run (IsNumbered run) numbered-push [] facts (numbered_none run) ordered
