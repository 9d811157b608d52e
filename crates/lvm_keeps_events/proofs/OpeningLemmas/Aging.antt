-- A table all of whose requests are aged.
use Rattle.std.proofs.Common.{◌≡◌, ◌<◌, ℕ, zero, suc, Bool, true, false, ◌||◌, if◌then◌else◌, nat_lt, List, [], ◌∷◌, ◌++◌, Some, length, map, slice_get, refl, ◌∙◌, ap, arith}
use Rattle.std.specs.Prelude.{All, count_by}
use Rattle.std.specs.List.{list_any}
use Rattle.std.proofs.lemmas.List.Elements.{All-head, All-tail}
use Rattle.lvm_vol.specs.Facts.{Fact}
use Rattle.lvm_vol.specs.Log.{is_open}
use Rattle.lvm_hold.specs.declared.queue.Row.{Row}
use Rattle.lvm_session.specs.declared.open.Open.{Open}
use Rattle.lvm_session.specs.Judging.{held_of, is_waiting, place_of}
use Rattle.lvm_session.specs.Calls.{aged}
use Rattle.lvm_session.specs.Dark.{AreTold, IsAscending}
use Rattle.lvm_session.specs.Sound.{IsAsked, count_if, waiting_rows, with_row}
use Rattle.lvm_keeps.proofs.Lists.{all_mapped, count_cons}

-- ---- what is told of requests apart from their age

pub any_aged : (t : Open → Bool) → ((o : Open) → t (aged o) ≡ t o) → (os : List Open) → list_any t (map aged os) ≡ list_any t os
any_aged t same [] = refl
any_aged t same (o ∷ os) = ap (λ b. b || list_any t (map aged os)) (same o) ∙ ap (λ b. t o || b) (any_aged t same os)

pub count_aged : (t : Open → Bool) → ((o : Open) → t (aged o) ≡ t o) → (os : List Open) → count_by t (map aged os) ≡ count_by t os
count_aged t same [] = refl
count_aged t same (o ∷ os) =
    let new = count_cons t (aged o) (map aged os) in
    let old = count_cons t o os in
    let one = ap count_if (same o) in
    let rest = count_aged t same os in
    omega (arith, new, old, one, rest)

pub long_aged : (os : List Open) → length (map aged os) ≡ length os
long_aged [] = refl
long_aged (o ∷ os) = ap suc (long_aged os)

pub get_aged : (os : List Open) (k : ℕ) (o : Open) → slice_get os k ≡ Some o → slice_get (map aged os) k ≡ Some (aged o)
get_aged [] k o is = absurd (cc is)
get_aged (x ∷ os) zero o is = let same : x ≡ o = cc is in ap (λ (y : Open). Some (aged y)) same
get_aged (x ∷ os) (suc k) o is = get_aged os k o is

pub rows_aged : (os : List Open) → waiting_rows (map aged os) ≡ waiting_rows os
rows_aged [] = refl
rows_aged (o ∷ os) = ap (λ (rows : List Row). if is_waiting o then record { id = place_of o.request.id; ask = held_of o.request.ask } ∷ rows else rows) (rows_aged os)

-- ---- the history tells of them

ascending_aged : (os : List Open) → IsAscending os → IsAscending (map aged os)
ascending_aged [] all = tt
ascending_aged (o ∷ os) all = (all_mapped (λ (later : Open). o.request.id < later.request.id) (λ (later : Open). o.request.id < later.request.id) aged (λ x less. less) os all.0, ascending_aged os all.1)

pub told_aged : (facts : List Fact) (os : List Open) → AreTold facts os → AreTold facts (map aged os)
told_aged facts os told = record {
  ascending = ascending_aged os told.ascending;
  still = all_mapped (λ (o : Open). is_waiting o ≡ true → is_open_of o ≡ true) (λ (o : Open). is_waiting o ≡ true → is_open_of o ≡ true) aged (λ x is. is) os told.still;
}
  where
    is_open_of : Open → Bool
    is_open_of o = is_open facts o.request.id

pub asked_aged : (facts : List Fact) (o : Open) → IsAsked facts o → IsAsked facts (aged o)
asked_aged facts o its = record {
  request = its.request;
  told = its.told;
  client = its.client;
  vol = its.vol;
  at = its.at;
  count = its.count;
  write = its.write;
  length = its.length;
  place = its.place;
  outcome = its.outcome;
  answered = its.answered;
}

-- ---- both hold of each

-- ---- a row behind all others

pub row_last : (step : Row) (rows : List Row) → All (λ (r : Row). r.id < step.id) rows → with_row step rows ≡ rows ++ step ∷ []
row_last step [] all = refl
row_last step (row ∷ rows) all = ap (λ b. if b then step ∷ row ∷ rows else row ∷ with_row step rows) (behind (All-head (λ (r : Row). r.id < step.id) row rows all)) ∙ ap (λ (rs : List Row). row ∷ rs) (row_last step rows (All-tail (λ (r : Row). r.id < step.id) row rows all))
  where
    behind : row.id < step.id → nat_lt step.id row.id ≡ false
    behind less = grind (arith, less)
