-- The first event of a kind, where none is due outside a span.
use Rattle.std.proofs.Common.{◌≡◌, ◌==◌, ◌<◌, ◌≤◌, ◌+◌, ℕ, zero, suc, Bool, true, false, List, [], ◌∷◌, Option, Some, None, length, slice_get, refl, sym, ◌∙◌, ap, subst, arith}
use Rattle.std.specs.Prelude.{is_some}
use Rattle.std.proofs.lemmas.Bool.{eqb-true}
use Rattle.std.proofs.lemmas.Bool.Decides.{nat_tests}
use Rattle.lvm_due.specs.passed.Session.{Event, Open, first_from, or_next}
use Rattle.lvm_due.specs.declared.span.Span.{Span}
use Rattle.lvm_due.specs.Spans.{is_in, Spans}

-- a request stands at each place of the table
pub some_there : (os : List Open) (k : ℕ) → k < length os → (o : Open) × (slice_get os k ≡ Some o)
some_there [] k within = absurd (omega (arith, within))
some_there (x ∷ os) zero within = (x, refl)
some_there (x ∷ os) (suc k) within = some_there os k (omega (arith, within))

-- what is there, where something is
is_some_of : (made : Option Event) → is_some made ≡ true → (it : Event) × (made ≡ Some it)
is_some_of (Some it) is = (it, refl)
is_some_of None is = absurd cc

none_of : (made : Option Event) → is_some made ≡ false → made ≡ None
none_of (Some it) is = absurd cc
none_of None is = refl

module _ (make : ℕ → Open → Option Event) where
  -- where none of them makes an event there is none
  all_none : (k : ℕ) (os : List Open) → ((i : ℕ) (o : Open) → slice_get os i ≡ Some o → make (k + i) o ≡ None) → first_from make k os ≡ None
  all_none k [] none = refl
  all_none k (o ∷ os) none =
      ap (λ (m : Option Event). or_next m (first_from make (k + 1) os)) (let same : k + 0 ≡ k = omega arith in subst (λ (n : ℕ). make n o ≡ None) same (none zero o refl))
      ∙ all_none (k + 1) os (λ i p there. let same : k + suc i ≡ k + 1 + i = omega arith in subst (λ (n : ℕ). make n p ≡ None) same (none (suc i) p there))

  -- and where one does, and none before it, that is the first
  found_first : (k : ℕ) (os : List Open) (i : ℕ) (o : Open) (it : Event) → slice_get os i ≡ Some o → ((j : ℕ) (p : Open) → j < i → slice_get os j ≡ Some p → make (k + j) p ≡ None) → make (k + i) o ≡ Some it → first_from make k os ≡ Some it
  found_first k [] i o it there before is = absurd (cc there)
  found_first k (x ∷ os) zero o it there before is =
      let same : x ≡ o = cc there in
      let at : k + 0 ≡ k = omega arith in
      ap (λ (m : Option Event). or_next m (first_from make (k + 1) os)) (ap (make k) same ∙ subst (λ (n : ℕ). make n o ≡ Some it) at is)
  found_first k (x ∷ os) (suc i) o it there before is =
      let at : k + 0 ≡ k = omega arith in
      let later : k + suc i ≡ k + 1 + i = omega arith in
      ap (λ (m : Option Event). or_next m (first_from make (k + 1) os)) (subst (λ (n : ℕ). make n x ≡ None) at (before zero x (omega arith) refl))
      ∙ found_first (k + 1) os i o it there (λ j p less at_j. let up : k + suc j ≡ k + 1 + j = omega arith in subst (λ (n : ℕ). make n p ≡ None) up (before (suc j) p (omega (arith, less)) at_j)) (subst (λ (n : ℕ). make n o ≡ Some it) later is)

-- a place that isn't one of these
outside : (s : Span) (k : ℕ) → k < s.from → is_in s k ≡ false
outside s k less = grind (arith, nat_tests, less)

-- no place is one of an empty span
empty_has : (s : Span) (k : ℕ) → s.to ≤ s.from → is_in s k ≡ false
empty_has s k empty = grind (arith, nat_tests, empty)

-- one behind the first of a span is one of it
still_outside : (s : Span) (k : ℕ) → (k == s.from) ≡ false → is_in (record s { from = s.from + 1 }) k ≡ false → is_in s k ≡ false
still_outside s k apart out = grind (arith, nat_tests, apart, out)

-- nothing is due of an empty span
pub none_due : (make : ℕ → Open → Option Event) (requests : List Open) (s : Span) → Spans make requests s → s.to ≤ s.from → first_from make 0 requests ≡ None
none_due make requests s spans empty =
    all_none make 0 requests (λ i o there. let at : i ≡ 0 + i = omega arith in subst (λ (n : ℕ). make n o ≡ None) at (spans.none i o there (empty_has s i empty)))

-- this is made of the request at the first place
module _ (make : ℕ → Open → Option Event) (requests : List Open) (s : Span) (spans : Spans make requests s) (test : s.from < s.to) {made : Option Event} (of : (o : Open) → slice_get requests s.from ≡ Some o → made ≡ make s.from o) where
  one : (o : Open) × (slice_get requests s.from ≡ Some o)
  one = let within = spans.within in some_there requests s.from (omega (arith, test, within))

  -- an event is the first of all
  pub first_due : (it : Event) → made ≡ Some it → first_from make 0 requests ≡ Some it
  first_due it is =
      let at : s.from ≡ 0 + s.from = omega arith in
      found_first make 0 requests s.from one.0 it one.1 (λ j p less there. let up : j ≡ 0 + j = omega arith in subst (λ (n : ℕ). make n p ≡ None) up (spans.none j p there (outside s j less)))
      (subst (λ (n : ℕ). make n one.0 ≡ Some it) at (sym (of one.0 one.1) ∙ is))

  -- and where there is none the span begins behind it
  pub narrowed : made ≡ None → Spans make requests (record s { from = s.from + 1 })
  narrowed none = record { within = spans.within; none = λ k o there out. by k o there out (k == s.from) refl }
    where
      by : (k : ℕ) (o : Open) → slice_get requests k ≡ Some o → is_in (record s { from = s.from + 1 }) k ≡ false → (b : Bool) → (k == s.from) ≡ b → make k o ≡ None
      by k o there out true same =
          let is : k ≡ s.from = eqb-true k s.from same in
          ap (λ (n : ℕ). make n o) is ∙ sym (of o (subst (λ (n : ℕ). slice_get requests n ≡ Some o) is there)) ∙ none
      by k o there out false apart = spans.none k o there (still_outside s k apart out)

  pub ends_here : {is : Bool} → is ≡ is_some made → is ≡ true → made ≡ first_from make 0 requests
  ends_here told some = let it = is_some_of made (sym told ∙ some) in it.1 ∙ sym (first_due it.0 it.1)

  pub goes_past : {is : Bool} → is ≡ is_some made → is ≡ false → Spans make requests (record s { from = s.from + 1 })
  goes_past told none = narrowed (none_of made (sym told ∙ none))
