-- Copies that are passed one after the other.
use Rattle.lvm_ranges.proofs.passed.Going.{path_shape}
use Rattle.std.proofs.Common.{◌≡◌, ◌⊎◌, inl, inr, ◌+◌, ◌<◌, ◌++◌, ℕ, zero, suc, List, [], ◌∷◌, None, sym, ap, ◌∙◌, subst, append_assoc, append-nil, arith}
use Rattle.std.proofs.Math.Nat.{eq-or-lt_of_le}
use Rattle.lvm_num.specs.declared.descriptor.Descriptor.{Descriptor}
use Rattle.lvm_session.specs.declared.open.Power.TheVariants as power
use Rattle.lvm_session.specs.State.{State}
use Rattle.lvm_ranges.specs.declared.fault.SyncFault.{SyncFault}
use Rattle.lvm_ranges.specs.declared.tally.Tally.{Tally}
use Rattle.lvm_ranges.specs.Passing.{Copy}
use Rattle.lvm_ranges.specs.Syncing.{ArePassed, NonePassed, OnePassed, PassesCopies, StopsAmong, below, with_passed}
use Rattle.lvm_ranges.specs.Turning.{GoesBeside}
use Rattle.lvm_ranges.proofs.TurningLemmas.{beside_both, beside_none, unstuck_beside}

-- some copies, and others behind them
pub passes_both : (first mid : State) (from t : Tally) (patience half : ℕ) (xs : List Copy) → PassesCopies first from patience xs mid t half → (ys : List Copy) (new : State) (to : Tally) (left : ℕ) → PassesCopies mid t half ys new to left
    → PassesCopies first from patience (xs ++ ys) new to left
passes_both first mid from t patience half xs one ys new to left NonePassed = subst (λ (copies : List Copy). PassesCopies first from patience copies mid t half) (sym (append-nil xs)) one
passes_both first mid from t patience half xs one ys new to left (OnePassed {copies} {old} {tally} {before} c how rest it) =
    subst (λ (l : List Copy). PassesCopies first from patience l new (with_passed tally how) left) (append_assoc xs copies (c ∷ [])) (OnePassed c how (passes_both first mid from t patience half xs one copies old tally before rest) it)

-- So far those below a number are passed, and no copy is open.
pub record PassedSoFar (of : ℕ → List Copy) (first now : State) (from to : Tally) (n patience left : ℕ) : Type 0 where
  pub passes : PassesCopies first from patience (below of n) now to left
  pub none : now.core.copy ≡ None
  pub unstuck : now.core.power ≡ power.Stuck → ⊥
  pub beside : GoesBeside first now patience left

pub none_yet : (of : ℕ → List Copy) (first : State) (from : Tally) (left : ℕ) → first.core.copy ≡ None → (first.core.power ≡ power.Stuck → ⊥) → PassedSoFar of first first from from 0 left left
none_yet of first from left none unstuck = record { passes = NonePassed; none = none; unstuck = unstuck; beside = beside_none first left }

module _ (of : ℕ → List Copy) (first old new : State) (from t to : Tally) (n patience left after : ℕ) (so_far : PassedSoFar of first old from t n patience left) where
  pub stops : GoesBeside old new left after → GoesBeside first new patience after
  stops beside = beside_both first old new patience left after so_far.beside beside

  one_more : ArePassed (of n) left after old new t to tt → GoesBeside old new left after → PassedSoFar of first new from to (n + 1) patience after
  one_more it beside = record {
    passes = let next : suc n ≡ n + 1 = omega arith in subst (λ (k : ℕ). PassesCopies first from patience (below of k) new to after) next (passes_both first old from t patience left (below of n) so_far.passes (of n) new to after it.0);
    none = it.1;
    unstuck = unstuck_beside old new left after beside so_far.unstuck;
    beside = stops beside;
  }

-- so it is where the copies are those of the group, which stays as it was
pub more_of : (f : Descriptor → ℕ → List Copy) (first old new : State) (from t to : Tally) (n patience left after : ℕ) → PassedSoFar (f first.core.descriptor) first old from t n patience left
    → ArePassed (f old.core.descriptor n) left after old new t to tt → GoesBeside old new left after → PassedSoFar (f first.core.descriptor) first new from to (n + 1) patience after
more_of f first old new from t to n patience left after so_far it beside =
    one_more (f first.core.descriptor) first old new from t to n patience left after so_far (subst (λ (d : Descriptor). ArePassed (f d n) left after old new t to tt) (path_shape so_far.beside.leaves).descriptor it) beside

-- ---- the resync ends at once

-- those below a number are those below a smaller one, its own and others
record Splits (of : ℕ → List Copy) (n m : ℕ) : Type 0 where
  rest : List Copy
  all : below of m ≡ below of n ++ (of n ++ rest)

splits_at : (of : ℕ → List Copy) (n m : ℕ) → n < m → Splits of n m
splits_at of n zero less = absurd (omega (arith, less))
splits_at of n (suc m) less = by (λ more. splits_at of n m more) (eq-or-lt_of_le (omega (arith, less)))
  where
    by : (n < m → Splits of n m) → (n ≡ m) ⊎ (n < m) → Splits of n (suc m)
    by before (inl same) =
        record { rest = []; all = ap (λ (k : ℕ). below of k ++ of k) (sym same) ∙ sym (ap (λ (l : List Copy). below of n ++ l) (append-nil (of n))) }
    by before (inr more) =
        let it = before more in
        record { rest = it.rest ++ of m; all = ap (λ (l : List Copy). l ++ of m) it.all ∙ append_assoc (below of n) (of n ++ it.rest) (of m) ∙ ap (λ (l : List Copy). below of n ++ l) (append_assoc (of n) it.rest (of m)) }

module _ (of : ℕ → List Copy) (first old new : State) (from t : Tally) (n patience left after : ℕ) (so_far : PassedSoFar of first old from t n patience left) (why : SyncFault) where
  -- it ends at one of the next
  pub stops_among : (m : ℕ) → n < m → StopsAmong (of n) left after old new t why → StopsAmong (below of m) patience after first new from why
  stops_among m less it =
      let cut = splits_at of n m less in
      record {
        passed = below of n ++ it.passed;
        one = it.one;
        rest = it.rest ++ cut.rest;
        all = cut.all ∙ ap (λ (l : List Copy). below of n ++ (l ++ cut.rest)) it.all ∙ ap (λ (l : List Copy). below of n ++ l) (append_assoc it.passed (it.one ∷ it.rest) cut.rest)
            ∙ sym (append_assoc (below of n) it.passed (it.one ∷ (it.rest ++ cut.rest)));
        mid = it.mid;
        tally = it.tally;
        before = it.before;
        passes = passes_both first old from t patience left (below of n) so_far.passes it.passed it.mid it.tally it.before it.passes;
        stops = it.stops;
      }

-- so it does where the copies are those of the group, which stays as it was
pub stops_of : (f : Descriptor → ℕ → List Copy) (first old new : State) (from t : Tally) (n patience left after : ℕ) → PassedSoFar (f first.core.descriptor) first old from t n patience left
    → (why : SyncFault) (m : ℕ) → n < m → StopsAmong (f old.core.descriptor n) left after old new t why → StopsAmong (below (f first.core.descriptor) m) patience after first new from why
stops_of f first old new from t n patience left after so_far why m less it =
    stops_among (f first.core.descriptor) first old new from t n patience left after so_far why m less (subst (λ (d : Descriptor). StopsAmong (f d n) left after old new t why) (path_shape so_far.beside.leaves).descriptor it)

-- all of them are passed
pub all_of : (of : ℕ → List Copy) (first now : State) (from to : Tally) (n m patience left : ℕ) → PassedSoFar of first now from to n patience left → n ≡ m → ArePassed (below of m) patience left first now from to tt
all_of of first now from to n m patience left so_far same = (subst (λ (k : ℕ). PassesCopies first from patience (below of k) now to left) same so_far.passes, so_far.none)
