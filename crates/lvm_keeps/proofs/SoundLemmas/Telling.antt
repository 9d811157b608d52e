-- What the history tells as an entry is added that begins no request.
use Rattle.std.proofs.Common.{◌≡◌, ◌+◌, ◌==◌, ℕ, Bool, true, false, ◌&&◌, ◌||◌, not, List, [], ◌∷◌, ◌++◌, Option, None, refl, sym, ◌∙◌, ap, arith, if◌then◌else◌}
use Rattle.std.specs.Prelude.{count_by, is_some, unwrap_or, nat_lt}
use Rattle.std.specs.List.{cons_option, find, list_any, filter, sum_by}
use Rattle.std.proofs.lemmas.List.{append-nil}
use Rattle.std.proofs.lemmas.List.Sums.{sum_by_push}
use Rattle.lvm_vol.specs.Facts.{Fact, Request, begun, begun_by}
use Rattle.lvm_vol.specs.Legal.{begins_in}
use Rattle.lvm_vol.specs.Log.{asked, has_id, is_answered, is_open, lands_id, no_request, takes_id}
use Rattle.lvm_vol.proofs.FactsLemmas.Order.{any-push, begun-push}
use Rattle.lvm_session.specs.Sound.{count_if, outcome_in, place_in, outcome_by, IsAsked}
use Rattle.lvm_session.specs.declared.open.Open.{Open}

module _ (facts : List Fact) (f : Fact) (begins : begun_by f ≡ None) where
  begun_still : begun (facts ++ f ∷ []) ≡ begun facts
  begun_still = begun-push facts f ∙ ap (λ (o : Option Request). begun facts ++ cons_option o []) begins ∙ append-nil (begun facts)

  pub asked_still : (id : ℕ) → asked (facts ++ f ∷ []) id ≡ asked facts id
  asked_still id = ap (find (has_id id)) begun_still

  pub place_still : (id : ℕ) → place_in (facts ++ f ∷ []) id ≡ place_in facts id
  place_still id = ap (λ (rs : List Request). sum_by (λ (r : Request). r.count) (filter (λ (r : Request). nat_lt r.id id) rs)) begun_still

  or_none : (a b : Bool) → b ≡ false → a || b ≡ a
  or_none true b none = refl
  or_none false b none = none

  any_still : (t : Fact → Bool) → t f ≡ false → list_any t (facts ++ f ∷ []) ≡ list_any t facts
  any_still t none = any-push t facts f ∙ or_none (list_any t facts) (t f) none

  -- a request that it doesn't land is as open as before
  pub open_still : (id : ℕ) → lands_id id f ≡ false → is_open (facts ++ f ∷ []) id ≡ is_open facts id
  open_still id none = ap (λ o. is_some o && not (list_any (lands_id id) (facts ++ f ∷ []))) (asked_still id) ∙ ap (λ b. is_some (asked facts id) && not b) (any_still (lands_id id) none)

  -- and one that it doesn't take either is as answered
  pub answered_still : (client id : ℕ) → lands_id id f ≡ false → takes_id id f ≡ false → is_answered (facts ++ f ∷ []) client id ≡ is_answered facts client id
  answered_still client id unlanded untaken =
      ap (λ o. is_some o && (unwrap_or o no_request).client == client && list_any (lands_id id) (facts ++ f ∷ []) && not (list_any (takes_id id) (facts ++ f ∷ []))) (asked_still id)
      ∙ ap (λ b. is_some (asked facts id) && (unwrap_or (asked facts id) no_request).client == client && b && not (list_any (takes_id id) (facts ++ f ∷ []))) (any_still (lands_id id) unlanded)
      ∙ ap (λ b. is_some (asked facts id) && (unwrap_or (asked facts id) no_request).client == client && list_any (lands_id id) facts && not b) (any_still (takes_id id) untaken)

pub outcome_still : (facts : List Fact) (f : Fact) (id : ℕ) → lands_id id f ≡ false → outcome_in (facts ++ f ∷ []) id ≡ outcome_in facts id
outcome_still [] f id none = ap (λ b. if b then outcome_by f else None) none
outcome_still (g ∷ facts) f id none = ap (λ rest. if lands_id id g then outcome_by g else rest) (outcome_still facts f id none)

-- of a request that it neither lands nor answers it tells as before
pub told_more : (facts : List Fact) (f : Fact) → begun_by f ≡ None → (o : Open) → lands_id o.request.id f ≡ false → takes_id o.request.id f ≡ false → IsAsked facts o → IsAsked (facts ++ f ∷ []) o
told_more facts f begins o unlanded untaken a = record {
  request = a.request;
  told = asked_still facts f begins o.request.id ∙ a.told;
  client = a.client;
  vol = a.vol;
  at = a.at;
  count = a.count;
  write = a.write;
  length = a.length;
  place = a.place ∙ sym (place_still facts f begins o.request.id);
  outcome = a.outcome ∙ sym (outcome_still facts f o.request.id unlanded);
  answered = λ ended. answered_still facts f begins o.request.client o.request.id unlanded untaken ∙ a.answered ended;
}

pub count_still : (run : ℕ) (facts : List Fact) (f : Fact) → begins_in run f ≡ false → count_by (begins_in run) (facts ++ f ∷ []) ≡ count_by (begins_in run) facts
count_still run facts f none =
    let more : count_by (begins_in run) (facts ++ f ∷ []) ≡ count_by (begins_in run) facts + count_if (begins_in run f) = sum_by_push (λ g. count_if (begins_in run g)) facts f in
    let no : count_if (begins_in run f) ≡ 0 = ap count_if none in
    omega (arith, more, no)
