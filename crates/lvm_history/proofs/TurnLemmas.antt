-- The rows of an ordered history: each request lands once, and numbers are from 1.
use Rattle.std.proofs.Common.{◌≡◌, ◌==◌, ◌+◌, ◌<◌, ◌≤◌, ◌++◌, ◌||◌, ◌∙◌, [], ◌∷◌, ℕ, zero, suc, List, Bool, true, false, refl, sym, ap, subst, inl, inr, arith, map, get_or}
use Rattle.std.specs.List.{list_any}
use Rattle.std.proofs.lemmas.Bool.{eqb-true, cases_lt, cases_eq}
use Rattle.std.proofs.lemmas.List.Folds.{list_any-append}
use Rattle.lvm_history.specs.passed.Vol.{Fact, Begun, Landed, Cut, lands_id, Follows, Ordered}
use Rattle.lvm_allowed.specs.declared.row.Row.{Row}
use Rattle.lvm_allowed.specs.declared.row.Row.TheVariants as row
use Rattle.lvm_allowed.specs.Rows.{is_landing}
use Rattle.lvm_allowed.specs.Fitting.{is_beginning}
use Rattle.lvm_chains.specs.Along.{IsInTurn}
use Rattle.lvm_history.specs.Keeping.{Holdings, IsSound, log_of, row_of}

row_lands : (id : ℕ) (f : Fact) → is_landing id (row_of f) ≡ lands_id id f
row_lands id (Landed r how started got) = refl
row_lands id _ = refl

-- what has landed lands by no later row
lands_again : (run : ℕ) (past facts : List Fact) (id j : ℕ) → Ordered run past facts → list_any (lands_id id) past ≡ true → is_landing id (get_or (map row_of facts) j row.Cut) ≡ false
lands_again run past [] id zero ordered landed = refl
lands_again run past [] id (suc j) ordered landed = refl
lands_again run past (f ∷ facts) id zero ordered landed = by_fact f ordered.0
  where
    by_fact : (g : Fact) → Follows run past g → is_landing id (row_of g) ≡ false
    by_fact (Landed r how started got) follows = by_test (r.id == id) refl
      where
        by_test : (t : Bool) → (r.id == id) ≡ t → t ≡ false
        by_test false test = refl
        by_test true test = sym landed ∙ ap (λ (n : ℕ). list_any (lands_id n) past) (sym (eqb-true r.id id test)) ∙ follows.1
    by_fact _ follows = refl
lands_again run past (f ∷ facts) id (suc j) ordered landed =
    lands_again run (past ++ f ∷ []) facts id j ordered.1 (list_any-append (lands_id id) past (f ∷ []) ∙ ap (λ (t : Bool). t || list_any (lands_id id) (f ∷ [])) landed)

lands_once : (run : ℕ) (past facts : List Fact) (id i j : ℕ) → Ordered run past facts → i < j → is_landing id (get_or (map row_of facts) i row.Cut) ≡ true → is_landing id (get_or (map row_of facts) j row.Cut) ≡ true → ◌≡◌ {A = Bool} true false
lands_once run past [] id zero j ordered less first second = sym first
lands_once run past [] id (suc i) j ordered less first second = sym first
lands_once run past (f ∷ facts) id zero zero ordered less first second = absurd (omega arith)
lands_once run past (f ∷ facts) id zero (suc j) ordered less first second =
    sym second
    ∙ lands_again run (past ++ f ∷ []) facts id j ordered.1 (list_any-append (lands_id id) past (f ∷ []) ∙ ap (λ (t : Bool). list_any (lands_id id) past || (t || false)) (sym (row_lands id f) ∙ first) ∙ or_true (list_any (lands_id id) past))
  where
    or_true : (t : Bool) → (t || true) ≡ true
    or_true true = refl
    or_true false = refl
lands_once run past (f ∷ facts) id (suc i) zero ordered less first second = absurd (omega arith)
lands_once run past (f ∷ facts) id (suc i) (suc j) ordered less first second = lands_once run (past ++ f ∷ []) facts id i j ordered.1 (omega arith) first second

begins_from : (run : ℕ) (past facts : List Fact) (id i : ℕ) → Ordered run past facts → is_beginning id (get_or (map row_of facts) i row.Cut) ≡ true → 1 ≤ id
begins_from run past [] id zero ordered is = absurd (let e : ◌≡◌ {A = Bool} false true = is in cc)
begins_from run past [] id (suc i) ordered is = absurd (let e : ◌≡◌ {A = Bool} false true = is in cc)
begins_from run past (f ∷ facts) id zero ordered is = by_fact f ordered.0 is
  where
    by_fact : (g : Fact) → Follows run past g → is_beginning id (row_of g) ≡ true → 1 ≤ id
    by_fact (Begun r) follows test = let same = eqb-true r.id id test in let next = follows.1 in omega (arith, same, next)
    by_fact _ follows test = absurd (let e : ◌≡◌ {A = Bool} false true = test in cc)
begins_from run past (f ∷ facts) id (suc i) ordered is = begins_from run (past ++ f ∷ []) facts id i ordered.1 is

in_turn : (run : ℕ) (facts : List Fact) → Ordered run [] facts → IsInTurn (map row_of facts)
in_turn run facts ordered = record {
  once = λ id i j first second. elim (cases_lt i j) [
    | inl less ↦ absurd (let e = lands_once run [] facts id i j ordered less first second in cc)
    | inr ge ↦ elim (cases_eq i j) [
      | inl same ↦ same
      | inr apart ↦ absurd (let e = lands_once run [] facts id j i ordered (omega arith) second first in cc)
    ]
  ];
  numbered = λ id i is. begins_from run [] facts id i ordered is;
}

pub in_turn_of : (k : Holdings) → IsSound k → IsInTurn k.rows
in_turn_of k sound = subst (λ (l : List Row). IsInTurn l) (sym sound.its_own.its_rows) (in_turn k.run (log_of k).facts sound.its_own.ordered)
