-- What the history tells of open requests as entries are added that begin none.
use Rattle.std.proofs.Common.{◌≡◌, ℕ, Bool, true, false, ◌&&◌, ◌||◌, not, List, [], ◌∷◌, ◌++◌, refl, ◌∙◌, ap}
use Rattle.std.specs.Prelude.{is_some, find, cond}
use Rattle.std.specs.List.{list_any}
use Rattle.std.proofs.lemmas.List.{append-nil}
use Rattle.std.proofs.lemmas.List.Elements.{filter_map-append}
use Rattle.std.proofs.lemmas.List.Folds.{list_any-append}
use Rattle.lvm_session.proofs.passed.Num.{and_true}
use Rattle.lvm_vol.specs.Facts.{Request, Fact, Cut, begun_by, begun}
use Rattle.lvm_vol.specs.Log.{Log, has_id, asked, is_open, lands_id, is_uncut, with_fact, cut_log}

-- no request begins with these entries
abbrev pub BeginNone : List Fact → Type 0
BeginNone more = begun more ≡ []

pub asked_still : (facts more : List Fact) (id : ℕ) → BeginNone more → asked (facts ++ more) id ≡ asked facts id
asked_still facts more id none =
    ap (λ (rs : List Request). find (has_id id) rs) (filter_map-append begun_by facts more ∙ ap (λ (rs : List Request). begun facts ++ rs) none ∙ append-nil (begun facts))

-- a request is open where it was and doesn't land with them
pub open_still : (facts more : List Fact) (id : ℕ) → BeginNone more → is_open (facts ++ more) id ≡ is_open facts id && not (list_any (lands_id id) more)
open_still facts more id none =
    ap (λ o. is_some o && not (list_any (lands_id id) (facts ++ more))) (asked_still facts more id none)
    ∙ ap (λ b. is_some (asked facts id) && not b) (list_any-append (lands_id id) facts more)
    ∙ by_tests (is_some (asked facts id)) (list_any (lands_id id) facts) (list_any (lands_id id) more)
  where
    by_tests : (a b c : Bool) → a && not (b || c) ≡ (a && not b) && not c
    by_tests true true c = refl
    by_tests true false c = refl
    by_tests false b c = refl

-- an entry that is about no request changes nothing
pub open_quiet : (facts : List Fact) (f : Fact) (id : ℕ) → BeginNone (f ∷ []) → lands_id id f ≡ false → is_open (facts ++ f ∷ []) id ≡ is_open facts id
open_quiet facts f id none still =
    open_still facts (f ∷ []) id none ∙ ap (λ b. is_open facts id && not (b || false)) still ∙ and_true (is_open facts id)

-- nor does a Cut
pub open_cut : (log : Log) (id : ℕ) → is_open (cut_log log).facts id ≡ is_open log.facts id
open_cut log id = by_test (is_uncut log.facts) refl
  where
    by_test : (b : Bool) → is_uncut log.facts ≡ b → is_open (cut_log log).facts id ≡ is_open log.facts id
    by_test true is = ap (λ t. is_open (cond t (with_fact log Cut) log).facts id) is ∙ open_quiet log.facts Cut id refl refl
    by_test false is = ap (λ t. is_open (cond t (with_fact log Cut) log).facts id) is
