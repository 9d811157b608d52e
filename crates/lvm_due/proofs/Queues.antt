-- Requests by their numbers, and who stands in the queue.
use Rattle.std.proofs.Common.{◌≡◌, ◌<◌, ◌+◌, ◌||◌, ◌==◌, not, cond, nat_lt, ℕ, zero, suc, Bool, true, false, List, [], ◌∷◌, Option, Some, None, length, slice_get, slice_set, refl, sym, ◌∙◌, ap, subst, arith}
use Rattle.std.specs.Prelude.{if◌then◌else◌, position, IfSome}
use Rattle.std.specs.List.{AllByRecursion, list_any, position_or_len}
use Rattle.std.proofs.lemmas.Bool.{eq-eqb, eqb-true, lt-ltb, ltb-true, ne_eqb}
use Rattle.std.proofs.lemmas.List.Folds.{position_or_len-set}
use Rattle.std.proofs.lemmas.Option.{cond_some, get_or_from_slice_get, slice_get_within}
use Rattle.lvm_hold.specs.declared.queue.Row.{Row}
use Rattle.lvm_hold.specs.Waiting.{without}
use Rattle.lvm_session.specs.declared.open.Open.{Open}
use Rattle.lvm_session.specs.Dark.{IsAscending}
use Rattle.lvm_session.specs.Judging.{held_of, is_waiting, place_of}
use Rattle.lvm_session.specs.Sound.{waiting_rows}
use Rattle.lvm_due.proofs.AtPlaces.{at_place}
use Rattle.lvm_due.proofs.DueLemmas.Frames.{long_set}

-- ---- numbers

abbrev pub has_number : ℕ → Open → Bool
has_number id = λ (o : Open). o.request.id == id

-- requests of one number are one
pub one_numbered : (os : List Open) (j k : ℕ) (x y : Open) → IsAscending os → slice_get os j ≡ Some x → slice_get os k ≡ Some y → x.request.id ≡ y.request.id → x ≡ y
one_numbered [] j k x y order at there same = absurd (cc at)
one_numbered (o ∷ os) zero zero x y order at there same = cc (at, there)
one_numbered (o ∷ os) zero (suc k) x y order at there same =
    let its : o ≡ x = cc at in
    let less = at_place (λ (later : Open). o.request.id < later.request.id) os k y order.0 there in
    let one = ap (λ (z : Open). z.request.id) its in
    absurd (omega (arith, less, one, same))
one_numbered (o ∷ os) (suc j) zero x y order at there same =
    let its : o ≡ y = cc there in
    let less = at_place (λ (later : Open). o.request.id < later.request.id) os j x order.0 at in
    let one = ap (λ (z : Open). z.request.id) its in
    absurd (omega (arith, less, one, same))
one_numbered (o ∷ os) (suc j) (suc k) x y order at there same = one_numbered os j k x y order.1 at there same

before_it : (os : List Open) (k : ℕ) (o : Open) (id : ℕ) → IsAscending os → slice_get os k ≡ Some o → o.request.id ≡ id → position_or_len (has_number id) os ≡ k
before_it [] k o id order there is = absurd (cc there)
before_it (x ∷ os) zero o id order there is =
    let its : x ≡ o = cc there in
    ap (λ (b : Bool). cond (not b) (1 + position_or_len (has_number id) os) 0) (eq-eqb x.request.id id (ap (λ (z : Open). z.request.id) its ∙ is))
before_it (x ∷ os) (suc k) o id order there is =
    let less = at_place (λ (later : Open). x.request.id < later.request.id) os k o order.0 there in
    let rest = before_it os k o id order.1 there is in
    ap (λ (b : Bool). cond (not b) (1 + position_or_len (has_number id) os) 0) (ne_eqb x.request.id id (λ same. absurd (omega (arith, less, is, same))))
    ∙ (let more : 1 + position_or_len (has_number id) os ≡ suc k = omega (arith, rest) in more)

pub position_is : (os : List Open) (k : ℕ) (o : Open) (id : ℕ) → IsAscending os → slice_get os k ≡ Some o → o.request.id ≡ id → position (has_number id) os ≡ Some k
position_is os k o id order there is =
    ap (λ (n : ℕ). cond (nat_lt n (length os)) (Some n) None) (before_it os k o id order there is)
    ∙ ap (λ (b : Bool). cond b (Some k) None) (lt-ltb k (length os) (slice_get_within os k o there))

-- one more in the place of another, of which the same holds
all_set : (P : Open → Type 0) (os : List Open) (k : ℕ) (is : Open) → AllByRecursion P os → P is → AllByRecursion P (slice_set os k is)
all_set P [] k is all its = all
all_set P (o ∷ os) zero is all its = (its, all.1)
all_set P (o ∷ os) (suc k) is all its = (all.0, all_set P os k is all.1 its)

-- numbers ascend still where one is put in the place of another of its number
pub ascends_set : (os : List Open) (k : ℕ) (was is : Open) → slice_get os k ≡ Some was → is.request.id ≡ was.request.id → IsAscending os → IsAscending (slice_set os k is)
ascends_set [] k was is there same order = order
ascends_set (o ∷ os) zero was is there same order =
    let its : o.request.id ≡ is.request.id = (let e : o ≡ was = cc there in ap (λ (z : Open). z.request.id) e ∙ sym same) in
    (subst (λ n. AllByRecursion (λ (later : Open). n < later.request.id) os) its order.0, order.1)
ascends_set (o ∷ os) (suc k) was is there same order =
    (all_set (λ (later : Open). o.request.id < later.request.id) os k is order.0 (subst (λ n. o.request.id < n) (sym same) (at_place (λ (later : Open). o.request.id < later.request.id) os k was order.0 there)), ascends_set os k was is there same order.1)

pub position_set : (test : Open → Bool) (os : List Open) (k : ℕ) (was is : Open) → slice_get os k ≡ Some was → test is ≡ test was → position test (slice_set os k is) ≡ position test os
position_set test os k was is there same =
    ap (λ (n : ℕ). cond (nat_lt n (length (slice_set os k is))) (Some n) None) (position_or_len-set test os k is was (same ∙ sym (ap test (get_or_from_slice_get os k was was there))))
    ∙ ap (λ (long : ℕ). cond (nat_lt (position_or_len test os) long) (Some (position_or_len test os)) None) (long_set os k is)

pub place_within : (test : Open → Bool) (os : List Open) (place : Option ℕ) → place ≡ position test os → IfSome place (λ k. k < length os)
place_within test os None is = tt
place_within test os (Some k) is =
    let both = cond_some (nat_lt (position_or_len test os) (length os)) (position_or_len test os) k (sym is) in
    let low = ltb-true (position_or_len test os) (length os) both.0 in
    omega (arith, low, both.1)

-- ---- the queue

abbrev pub row_of : Open → Row
row_of o = record { id = place_of o.request.id; ask = held_of o.request.ask }

-- a test of the rows that none of a number passes tells the same without them
pub unqueued : (test : Row → Bool) (n : ℕ) (os : List Open) → ((k : ℕ) (o : Open) → slice_get os k ≡ Some o → o.request.id ≡ n → test (row_of o) ≡ false)
    → list_any test (without (place_of n) (waiting_rows os)) ≡ list_any test (waiting_rows os)
unqueued test n [] fails = refl
unqueued test n (o ∷ os) fails = by_waiting (is_waiting o) (unqueued test n os (λ k p there is. fails (suc k) p there is))
  where
    rows : List Row
    rows = waiting_rows os

    by_number : (b : Bool) → (place_of o.request.id == place_of n) ≡ b → list_any test (without (place_of n) rows) ≡ list_any test rows
        → list_any test (if not b then row_of o ∷ without (place_of n) rows else without (place_of n) rows) ≡ (test (row_of o) || list_any test rows)
    by_number true is rest = rest ∙ sym (ap (λ (b : Bool). b || list_any test rows) (fails zero o refl (let same = eqb-true (place_of o.request.id) (place_of n) is in omega (arith, same))))
    by_number false is rest = ap (λ (b : Bool). test (row_of o) || b) rest

    by_waiting : (b : Bool) → list_any test (without (place_of n) rows) ≡ list_any test rows → list_any test (without (place_of n) (if b then row_of o ∷ rows else rows)) ≡ list_any test (if b then row_of o ∷ rows else rows)
    by_waiting true rest = by_number (place_of o.request.id == place_of n) refl rest
    by_waiting false rest = rest
