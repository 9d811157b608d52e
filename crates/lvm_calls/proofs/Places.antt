-- Requests at their places of the table, and their answers.
use Rattle.std.proofs.Common.{◌≡◌, ◌==◌, ◌<◌, ℕ, zero, suc, true, List, [], ◌∷◌, Option, Some, length, position, slice_get, slice_index_or, sym, ◌∙◌, ap, subst, arith}
use Rattle.std.specs.Prelude.{is_none}
use Rattle.std.specs.List.{AllByRecursion, remove}
use Rattle.std.proofs.lemmas.Bool.{eqb-true, and_parts}
use Rattle.std.proofs.lemmas.List.Quantifiers.{position-Some}
use Rattle.lvm_vol.specs.declared.entry.Outcome.{Outcome}
use Rattle.lvm_vol.specs.Facts.{Fact}
use Rattle.lvm_vol.specs.Log.{Log, is_answered, taken_fact, with_fact}
use Rattle.lvm_path.specs.Asks.{count_of}
use Rattle.lvm_session.specs.declared.open.Open.{Open}
use Rattle.lvm_session.specs.State.{Core}
use Rattle.lvm_session.specs.declared.answers.Taken.{Taken}
use Rattle.lvm_session.specs.Calls.{TakesLanded, is_asked, taken_as}
use Rattle.lvm_session.specs.Sound.{IsAsked}

-- what holds of each holds of the one at a place
at_place : (P : Open → Type 0) (os : List Open) (k : ℕ) (o : Open) → AllByRecursion P os → slice_get os k ≡ Some o → P o
at_place P [] k o all there = absurd (cc there)
at_place P (x ∷ os) zero o all there = let same : x ≡ o = cc there in subst P same all.0
at_place P (x ∷ os) (suc k) o all there = at_place P os k o all.1 there

stands : (os : List Open) (k : ℕ) (o : Open) → k < length os → o ≡ slice_index_or os k o → slice_get os k ≡ Some o
stands [] k o within is = absurd (omega (arith, within))
stands (x ∷ os) zero o within is = ap Some (sym is)
stands (x ∷ os) (suc k) o within is = stands os k o (omega (arith, within)) is

-- the request that a client asks for stands at the place that is found
module _ (client id : ℕ) (os : List Open) (k : ℕ) (o : Open) (found : Some k ≡ position (is_asked client id) os) (is : o ≡ slice_index_or os k o) where
  found_so : (k < length os) × (is_asked client id o ≡ true)
  found_so = let it = position-Some (is_asked client id) os k o (sym found) in (it.0, ap (is_asked client id) is ∙ it.1)

  its : (o.request.client ≡ client) × (o.request.id ≡ id)
  its = let two = and_parts (o.request.client == client) (o.request.id == id) found_so.1 in (eqb-true o.request.client client two.0, eqb-true o.request.id id two.1)

  pub there : slice_get os k ≡ Some o
  there = stands os k o found_so.0 is

  -- once it has landed its answer isn't taken
  pub answered : (facts : List Fact) (how : Outcome) → AllByRecursion (IsAsked facts) os → o.landed ≡ Some how → is_answered facts client id ≡ true
  answered facts how all landed =
      let one : IsAsked facts o = at_place (IsAsked facts) os k o all there in
      subst (λ n. is_answered facts client n ≡ true) its.1 (subst (λ n. is_answered facts n o.request.id ≡ true) its.0 (one.answered (ap is_none landed)))

  -- it goes with its answer
  pub taken : (core : Core) (rest : List Open) (log : Log) (answer : Taken) (count : ℕ) (how : Outcome) → core.requests ≡ os → o.landed ≡ Some how → rest ≡ remove core.requests k
      → log ≡ with_fact core.history (taken_fact core.history.facts id) → count ≡ count_of o.request.ask → answer ≡ taken_as how o.place count
      → TakesLanded core (record core { requests = rest; history = log }) k o answer o.landed
  taken core rest log answer count how same landed goes enters counts gives =
      subst (λ (l : Option Outcome). TakesLanded core (record core { requests = rest; history = log }) k o answer l) (sym landed) (
        gives ∙ ap (λ n. taken_as how o.place n) counts,
        ap (λ (rs : List Open). record core { requests = rs; history = log }) goes
            ∙ ap (λ (l : Log). record core { requests = remove core.requests k; history = l }) (enters ∙ ap (λ n. with_fact core.history (taken_fact core.history.facts n)) (sym its.1)),
      )
