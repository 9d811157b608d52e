-- Volumes that are marked one after another.
use Rattle.std.proofs.Common.{◌≡◌, ℕ, ◌+◌, ◌<◌, ◌==◌, Bool, true, false, ◌&&◌, ◌||◌, not, List, [], length, take, get_or, None, refl, sym, ◌∙◌, ap, subst, arith}
use Rattle.std.specs.Prelude.{All, if◌then◌else◌}
use Rattle.std.proofs.lemmas.Bool.{eqb-true}
use Rattle.std.proofs.lemmas.List.Folds.{list_any_more}
use Rattle.lvm_num.specs.Status.{calls_dirty}
use Rattle.lvm_status.specs.Table.{SameStale}
use Rattle.lvm_status.specs.declared.change.Change.TheVariants as change
use Rattle.lvm_status.specs.Update.{Stored, seen}
use Rattle.lvm_status.specs.Calls.{BecomesDirty, with_wanted}
use Rattle.lvm_core.specs.Committing.{AreDirtied, Dirties, is_in}
use Rattle.lvm_core.specs.Steps.{IsDirtied, WantsMarksAtMost}
use Rattle.lvm_core.proofs.StepsLemmas.Marking.{at_most_none, rest_marked, rest_then}

-- a mark by its test
if_made : (t a : Bool) → (if t then true else a) ≡ (a || t)
if_made true true = refl
if_made true false = refl
if_made false true = refl
if_made false false = refl

if_gone : (t a : Bool) → (if t then false else a) ≡ (a && not t)
if_gone true true = refl
if_gone true false = refl
if_gone false true = refl
if_gone false false = refl

-- ---- so far

-- These marks were made, and nothing where none was to be.
pub record DirtSoFar (to_dirty to_clean : List ℕ) (none : Type 0) (old now : Stored) : Type 0 where
  pub rest : WantsMarksAtMost old now
  pub stale : SameStale old.wanted now.wanted
  pub marks : Dirties to_dirty to_clean old.wanted now.wanted
  pub same : none → now ≡ old

pub none_dirtied : (none : Type 0) (old : Stored) → old.in_flight ≡ None → DirtSoFar [] [] none old old
none_dirtied none old idle = record {
  rest = at_most_none old idle;
  stale = λ p. refl;
  marks = λ p. all_as_before (calls_dirty old.wanted p);
  same = λ none. refl;
}
  where
    all_as_before : (a : Bool) → a ≡ (a || false) && not false
    all_as_before true = refl
    all_as_before false = refl

-- ---- one more

more_in : (numbers : List ℕ) (i : ℕ) (p q : ℕ) → i < length numbers → p ≡ get_or numbers i p → is_in (take (i + 1) numbers) q ≡ (is_in (take i numbers) q || q == p)
more_in numbers i p q within is = list_any_more (λ (r : ℕ). q == r) numbers i p within ∙ ap (λ (r : ℕ). is_in (take i numbers) q || q == r) (sym is)

-- the same marks, said of other lists
redirtied : (dirty clean more cleaner : List ℕ) (none : Type 0) (old now : Stored) → DirtSoFar dirty clean none old now → Dirties more cleaner old.wanted now.wanted → DirtSoFar more cleaner none old now
redirtied dirty clean more cleaner none old now so_far marks = record { rest = so_far.rest; stale = so_far.stale; marks = marks; same = so_far.same }

module _ (numbers : List ℕ) (none : Type 0) (i : ℕ) (p : ℕ) (within : i < length numbers) (its : p ≡ get_or numbers i p) (old now : Stored) where
  -- a volume that is dirty already
  pub dirty_passed : DirtSoFar (take i numbers) [] none old now → calls_dirty now.wanted p ≡ true → DirtSoFar (take (i + 1) numbers) [] none old now
  dirty_passed so_far is = redirtied (take i numbers) [] (take (i + 1) numbers) [] none old now so_far (λ q. by_test q (q == p) refl)
    where
      simple : (a b : Bool) → (a || b) && not false ≡ (a || (b || false)) && not false
      simple true b = refl
      simple false true = refl
      simple false false = refl

      full : (a b : Bool) → true ≡ (a || (b || true)) && not false
      full true b = refl
      full false true = refl
      full false false = refl

      by_test : (q : ℕ) (t : Bool) → (q == p) ≡ t → calls_dirty now.wanted q ≡ (calls_dirty old.wanted q || is_in (take (i + 1) numbers) q) && not (is_in [] q)
      by_test q true e =
          ap (calls_dirty now.wanted) (eqb-true q p e) ∙ is ∙ full (calls_dirty old.wanted q) (is_in (take i numbers) q)
          ∙ ap (λ (b : Bool). (calls_dirty old.wanted q || (is_in (take i numbers) q || b)) && not false) (sym e)
          ∙ ap (λ (b : Bool). (calls_dirty old.wanted q || b) && not false) (sym (more_in numbers i p q within its))
      by_test q false e =
          so_far.marks q ∙ simple (calls_dirty old.wanted q) (is_in (take i numbers) q)
          ∙ ap (λ (b : Bool). (calls_dirty old.wanted q || (is_in (take i numbers) q || b)) && not false) (sym e)
          ∙ ap (λ (b : Bool). (calls_dirty old.wanted q || b) && not false) (sym (more_in numbers i p q within its))

  -- and one that isn't
  pub clean_passed : DirtSoFar [] (take i numbers) none old now → calls_dirty now.wanted p ≡ false → DirtSoFar [] (take (i + 1) numbers) none old now
  clean_passed so_far is = redirtied [] (take i numbers) [] (take (i + 1) numbers) none old now so_far (λ q. by_test q (q == p) refl)
    where
      simple : (a b : Bool) → a && not b ≡ a && not (b || false)
      simple a true = refl
      simple a false = refl

      empty : (a b : Bool) → false ≡ a && not (b || true)
      empty true true = refl
      empty true false = refl
      empty false b = refl

      by_test : (q : ℕ) (t : Bool) → (q == p) ≡ t → calls_dirty now.wanted q ≡ (calls_dirty old.wanted q || is_in [] q) && not (is_in (take (i + 1) numbers) q)
      by_test q true e =
          ap (calls_dirty now.wanted) (eqb-true q p e) ∙ is ∙ empty (calls_dirty old.wanted q || false) (is_in (take i numbers) q)
          ∙ ap (λ (b : Bool). (calls_dirty old.wanted q || false) && not (is_in (take i numbers) q || b)) (sym e)
          ∙ ap (λ (b : Bool). (calls_dirty old.wanted q || false) && not b) (sym (more_in numbers i p q within its))
      by_test q false e =
          so_far.marks q ∙ simple (calls_dirty old.wanted q || false) (is_in (take i numbers) q)
          ∙ ap (λ (b : Bool). (calls_dirty old.wanted q || false) && not (is_in (take i numbers) q || b)) (sym e)
          ∙ ap (λ (b : Bool). (calls_dirty old.wanted q || false) && not b) (sym (more_in numbers i p q within its))

  module _ (new : Stored) where
    -- one that becomes dirty
    pub dirty_wanted : DirtSoFar (take i numbers) [] none old now → calls_dirty now.wanted p ≡ false → (none → calls_dirty old.wanted p ≡ true) → BecomesDirty p true now.wanted new.wanted → seen new ≡ with_wanted (seen now) (change.Dirty p) new.wanted
        → DirtSoFar (take (i + 1) numbers) [] none old new
    dirty_wanted so_far isnt clash becomes rest =
        record {
          rest = rest_marked old now new (change.Dirty p) refl so_far.rest becomes.members becomes.missing rest;
          stale = λ q. becomes.stale q ∙ so_far.stale q;
          marks = λ q.
              becomes.dirty q ∙ if_made (q == p) (calls_dirty now.wanted q)
              ∙ ap (λ (b : Bool). b || q == p) (so_far.marks q)
              ∙ both (calls_dirty old.wanted q) (is_in (take i numbers) q) (q == p)
              ∙ ap (λ (b : Bool). (calls_dirty old.wanted q || b) && not false) (sym (more_in numbers i p q within its));
          same = λ no. absurd (let e = ap (λ (u : Stored). calls_dirty u.wanted p) (so_far.same no) in let f = clash no in cc (e, f, isnt));
        }
      where
        both : (a b c : Bool) → ((a || b) && not false) || c ≡ (a || (b || c)) && not false
        both true b c = refl
        both false true c = refl
        both false false true = refl
        both false false false = refl

    -- one that becomes clean
    pub clean_wanted : DirtSoFar [] (take i numbers) none old now → calls_dirty now.wanted p ≡ true → (none → calls_dirty old.wanted p ≡ false) → BecomesDirty p false now.wanted new.wanted → seen new ≡ with_wanted (seen now) (change.Clean p) new.wanted
        → DirtSoFar [] (take (i + 1) numbers) none old new
    clean_wanted so_far is clash becomes rest =
        record {
          rest = rest_marked old now new (change.Clean p) refl so_far.rest becomes.members becomes.missing rest;
          stale = λ q. becomes.stale q ∙ so_far.stale q;
          marks = λ q.
              becomes.dirty q ∙ if_gone (q == p) (calls_dirty now.wanted q)
              ∙ ap (λ (b : Bool). b && not (q == p)) (so_far.marks q)
              ∙ both (calls_dirty old.wanted q || false) (is_in (take i numbers) q) (q == p)
              ∙ ap (λ (b : Bool). (calls_dirty old.wanted q || false) && not b) (sym (more_in numbers i p q within its));
          same = λ no. absurd (let e = ap (λ (u : Stored). calls_dirty u.wanted p) (so_far.same no) in let f = clash no in cc (e, f, is));
        }
      where
        both : (a b c : Bool) → (a && not b) && not c ≡ a && not (b || c)
        both true true c = refl
        both true false c = refl
        both false b c = refl

-- ---- all of them

pub dirtied_both : (to_dirty to_clean : List ℕ) (old mid new : Stored) → IsDirtied to_dirty [] old mid → IsDirtied [] to_clean mid new → IsDirtied to_dirty to_clean old new
dirtied_both to_dirty to_clean old mid new one two = record {
  rest = rest_then old mid new one.rest two.rest;
  stale = λ p. two.stale p ∙ one.stale p;
  marks = λ p.
      two.marks p
      ∙ ap (λ (b : Bool). (b || false) && not (is_in to_clean p)) (one.marks p)
      ∙ both (calls_dirty old.wanted p) (is_in to_dirty p) (is_in to_clean p);
  same = λ are.
      let first : mid ≡ old = one.same (record { dirty = are.dirty; clean = λ k d lt. absurd (omega (arith, lt)) }) in
      two.same (record { dirty = λ k d lt. absurd (omega (arith, lt)); clean = subst (λ (u : Stored). All (λ (p : ℕ). calls_dirty u.wanted p ≡ false) to_clean) (sym first) are.clean }) ∙ first;
}
  where
    both : (a b c : Bool) → (((a || b) && not false) || false) && not c ≡ (a || b) && not c
    both true b c = refl
    both false true c = refl
    both false false c = refl
