-- What is in hand at the end of a session that goes on is out, one buffer after the other.
use Rattle.std.proofs.Common.{◌≡◌, ◌≤◌, ◌+◌, ◌==◌, ℕ, zero, suc, Bool, true, false, cond, List, [], ◌∷◌, Option, Some, None, count_by, slice_get, slice_set, slice_index_or, refl, sym, ◌∙◌, ap, subst, arith}
use Rattle.std.specs.List.{AllByRecursion}
use Rattle.std.proofs.lemmas.Bool.{eqb-false}
use Rattle.std.proofs.lemmas.List.Sums.{sum_by-cons}
use Rattle.lvm_num.specs.Buffer.{Buffer}
use Rattle.lvm_pbuf.specs.Out.{IsOut, TakesLowest}
use Rattle.lvm_session.specs.declared.open.Open.{Open}
use Rattle.lvm_session.specs.State.{Core}
use Rattle.lvm_session.specs.Judging.{is_waiting}
use Rattle.lvm_session.specs.Bringing.{with_back}
use Rattle.lvm_session.specs.Dark.{hand_of_copy}
use Rattle.lvm_session.specs.Hands.{AreInHand, IsOutIf, MayEnd}
use Rattle.lvm_session.specs.Requests.{IsOpenOne}
use Rattle.lvm_session.specs.Sound.{IsGoing, count_if, is_hand}

pub is_out : (pool : List Bool) (n : ℕ) → 1 ≤ count_if (slice_index_or pool n false) → IsOut pool n
is_out [] n some = absurd (omega (arith, some))
is_out (b ∷ pool) zero some = by_test b some
  where
    by_test : (b : Bool) → 1 ≤ count_if b → IsOut (b ∷ pool) zero
    by_test true some = refl
    by_test false some = absurd (omega (arith, some))
is_out (b ∷ pool) (suc n) some = is_out pool n some

pub at_most_one : (b : Bool) → count_if b ≤ 1
at_most_one true = omega arith
at_most_one false = omega arith

pub get_other : (pool : List Bool) (m n : ℕ) → (m ≡ n → ⊥) → slice_index_or (slice_set pool m false) n false ≡ slice_index_or pool n false
get_other [] m n differ = refl
get_other (b ∷ pool) zero zero differ = absurd (differ refl)
get_other (b ∷ pool) zero (suc n) differ = refl
get_other (b ∷ pool) (suc m) zero differ = refl
get_other (b ∷ pool) (suc m) (suc n) differ = get_other pool m n (λ e. differ (ap suc e))

-- one gives back what it has in hand, and the others still have theirs
after_back : (pool : List Bool) (hand : Option Buffer) (others : ℕ → ℕ) → ((n : ℕ) → count_if (is_hand n hand) + others n ≤ count_if (slice_index_or pool n false))
    → IsOutIf pool hand × ((n : ℕ) → others n ≤ count_if (slice_index_or (with_back pool hand) n false))
after_back pool None others few = (tt, λ n. let all = few n in omega (arith, all))
after_back pool (Some buf) others few = (is_out pool buf.number own, λ n. by_test n (buf.number == n) refl)
  where
    itself : (n : ℕ) → (n == n) ≡ true
    itself n = grind (arith)

    own : 1 ≤ count_if (slice_index_or pool buf.number false)
    own = let all = few buf.number in let one = ap count_if (itself buf.number) in omega (arith, all, one)

    by_test : (n : ℕ) (b : Bool) → (buf.number == n) ≡ b → others n ≤ count_if (slice_index_or (slice_set pool buf.number false) n false)
    by_test n true is = let all = few n in let one = ap count_if is in let most = at_most_one (slice_index_or pool n false) in omega (arith, all, one, most)
    by_test n false is =
        let all = few n in
        let none = ap count_if is in
        let same = ap count_if (get_other pool buf.number n (eqb-false buf.number n is)) in
        omega (arith, all, none, same)

none_left : (core : Core) (os : List Open) → AllByRecursion (IsOpenOne core) os → AllByRecursion (λ (o : Open). is_waiting o ≡ false → o.got ≡ None) os
none_left core [] all = tt
none_left core (o ∷ os) all = (λ landed. (all.0.over landed).hand, none_left core os all.1)

abbrev hands_of : ℕ → List Open → ℕ
hands_of n os = count_by (λ (o : Open). is_hand n o.got) os

in_hand : (pool : List Bool) (os : List Open) → ((n : ℕ) → hands_of n os ≤ count_if (slice_index_or pool n false)) → AllByRecursion (λ (o : Open). is_waiting o ≡ false → o.got ≡ None) os → AreInHand pool os
in_hand pool [] few none = tt
in_hand pool (o ∷ os) few none =
    let back = after_back pool o.got (λ n. hands_of n os) (λ n. let all = few n in let more = sum_by-cons (λ (x : Open). cond (is_hand n x.got) 1 0) o os in omega (arith, all, more)) in
    (record { out = back.0; none = none.0 }, in_hand (with_back pool o.got) os back.1 none.1)

-- a session that goes on can end
pub may_end : (core : Core) → IsGoing core → MayEnd core
may_end core going =
    let back = after_back core.pool (hand_of_copy core.copy) (λ n. hands_of n core.requests) (λ n. let all = going.hands n in omega (arith, all)) in
    record { told = going.told.table; copy = back.0; requests = in_hand (with_back core.pool (hand_of_copy core.copy)) core.requests back.1 (none_left core core.requests going.requests) }

-- ---- a buffer that is taken, and comes back

put_back : (pool : List Bool) (n : ℕ) → slice_get pool n ≡ Some false → slice_set (slice_set pool n true) n false ≡ pool
put_back [] n free = absurd (cc free)
put_back (b ∷ pool) zero free = let same : b ≡ false = cc free in ap (λ x. x ∷ pool) (sym same)
put_back (b ∷ pool) (suc n) free = ap (λ p. b ∷ p) (put_back pool n free)

set_there : (pool : List Bool) (n : ℕ) → slice_get pool n ≡ Some false → slice_get (slice_set pool n true) n ≡ Some true
set_there [] n free = absurd (cc free)
set_there (b ∷ pool) zero free = refl
set_there (b ∷ pool) (suc n) free = set_there pool n free

pub pool_same : (old new : List Bool) (n : ℕ) → TakesLowest old new n → slice_set new n false ≡ old
pool_same old new n takes = ap (λ p. slice_set p n false) takes.new_is ∙ put_back old n takes.free

pub is_taken : (old new : List Bool) (n : ℕ) → TakesLowest old new n → IsOut new n
is_taken old new n takes = subst (λ p. IsOut p n) (sym takes.new_is) (set_there old n takes.free)
