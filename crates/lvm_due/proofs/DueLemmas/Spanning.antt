-- Spans, and what is due outside them.
use Rattle.std.proofs.Common.{◌≡◌, ◌<◌, ◌≤◌, ◌+◌, ◌==◌, ℕ, Bool, true, false, nat_le, nat_lt, List, [], ◌∷◌, Option, Some, None, length, slice_get, refl, sym, ◌∙◌, ap, subst, arith}
use Rattle.std.specs.List.{list_any}
use Rattle.std.proofs.lemmas.Bool.{and_from, and_parts, eqb-false, eqb-true, le-leb, leb-true, lt-ltb, ltb-true, false_from_ne_true}
use Rattle.std.proofs.lemmas.Option.{slice_get_within}
use Rattle.lvm_session.specs.declared.event.Event.{Event}
use Rattle.lvm_session.specs.declared.open.Open.{Open}
use Rattle.lvm_session.specs.State.{Core}
use Rattle.lvm_session.specs.Judging.{is_failing}
use Rattle.lvm_session.specs.Enabled.{admission_at, data_at, landing_at, note_at, pinning_at}
use Rattle.lvm_due.specs.declared.span.Span.{Span}
use Rattle.lvm_due.specs.Spans.{is_in, Skips, Spans}
use Rattle.lvm_due.specs.declared.due.Due.{Due}
use Rattle.lvm_due.specs.Due.{none, AddsIf, Covers, IsDue, Joins}

pub in_parts : (s : Span) (k : ℕ) → is_in s k ≡ true → (s.from ≤ k) × (k < s.to)
in_parts s k is = let both = and_parts (nat_le s.from k) (nat_lt k s.to) is in (leb-true s.from k both.0, ltb-true k s.to both.1)

pub in_from : (s : Span) (k : ℕ) → s.from ≤ k → k < s.to → is_in s k ≡ true
in_from s k low high = and_from (nat_le s.from k) (nat_lt k s.to) (le-leb s.from k low) (lt-ltb k s.to high)

-- what isn't in a span isn't in one that it contains
pub out_of : (s t : Span) (k : ℕ) → (is_in s k ≡ true → is_in t k ≡ true) → is_in t k ≡ false → is_in s k ≡ false
out_of s t k wider out = false_from_ne_true (is_in s k) (λ is. let e : true ≡ false = sym (wider is) ∙ out in absurd (cc e))

-- nothing is both in it and not
pub not_both : {X : Type 0} (s : Span) (k : ℕ) → is_in s k ≡ true → is_in s k ≡ false → X
not_both s k is out = absurd (let e : true ≡ false = sym is ∙ out in cc e)

-- ---- all places

module _ (n : ℕ) (make : ℕ → Open → Option Event) (requests : List Open) (long : length requests ≡ n) where
  pub spans_all : (s : Span) → s.from ≡ 0 → s.to ≡ n → Spans make requests s
  spans_all s from to = record {
    within = omega (arith, to, long);
    none = λ k o there out. let low = slice_get_within requests k o there in not_both s k (in_from s k (omega (arith, from)) (omega (arith, to, long, low))) out;
  }

-- and none of no requests fails
none_fails_yet : (core : Core) (os : List Open) → length os ≡ 0 → list_any (is_failing core) os ≡ false
none_fails_yet core [] none = refl
none_fails_yet core (o ∷ os) none = absurd (omega (arith, none))

pub all_due : (core : Core) (n : ℕ) (s : Span) → s.from ≡ 0 → s.to ≡ n → length core.requests ≡ n → IsDue core (record { landing = s; admission = s; pinning = s; note = s; «data» = s; unfailing = n == 0 })
all_due core n s from to long = record {
  unfailing = λ is. none_fails_yet core core.requests (long ∙ eqb-true n 0 is);
  landing = spans_all n (landing_at core) core.requests long s from to;
  admission = spans_all n (admission_at core) core.requests long s from to;
  pinning = spans_all n (pinning_at core) core.requests long s from to;
  note = spans_all n (note_at core) core.requests long s from to;
  «data» = spans_all n (data_at core) core.requests long s from to;
}

-- ---- what is added

module _ (which : Open → Bool) (requests : List Open) where
  pub covers_none : (s : Span) → s.to ≡ 0 → Covers which requests 0 s
  covers_none s to = record { within = omega (arith, to); has = λ k o low there is. absurd (omega (arith, low)) }

  pub covers_more : (n : ℕ) (o : Open) (is : Bool) (s t : Span) → slice_get requests n ≡ Some o → is ≡ which o → AddsIf is n s t → Covers which requests n s → Covers which requests (n + 1) t
  covers_more n o true s t there tells adds covers = record {
    within = adds.within (n + 1) (let low = covers.within in omega (arith, low)) (omega arith);
    has = λ k p low at is. by k p low at is (k == n) refl;
  }
    where
      by : (k : ℕ) (p : Open) → k < n + 1 → slice_get requests k ≡ Some p → which p ≡ true → (b : Bool) → (k == n) ≡ b → is_in t k ≡ true
      by k p low at is true same = ap (is_in t) (eqb-true k n same) ∙ adds.has
      by k p low at is false apart = adds.wider k (covers.has k p (let other = eqb-false k n apart in omega (arith, low, other)) at is)
  covers_more n o false s t there tells same covers = record {
    within = let low = covers.within in let to = ap (λ (x : Span). x.to) same in omega (arith, low, to);
    has = λ k p low at is. by k p low at is (k == n) refl;
  }
    where
      by : (k : ℕ) (p : Open) → k < n + 1 → slice_get requests k ≡ Some p → which p ≡ true → (b : Bool) → (k == n) ≡ b → is_in t k ≡ true
      by k p low at is true here =
          let at_last : slice_get requests n ≡ Some p = ap (slice_get requests) (sym (eqb-true k n here)) ∙ at in
          let its : p ≡ o = cc (at_last, there) in
          absurd (let e : true ≡ false = sym is ∙ ap which its ∙ sym tells in cc e)
      by k p low at is false apart = ap (λ (x : Span). is_in x k) same ∙ covers.has k p (let other = eqb-false k n apart in omega (arith, low, other)) at is

-- no request passes this test
pub covers_nothing : (requests : List Open) (n : ℕ) (s : Span) → s.to ≡ 0 → Covers none requests n s
covers_nothing requests n s to = record { within = omega (arith, to); has = λ k o low there is. absurd (cc is) }

-- ---- a span of requests of which one has changed

-- A span has the places of another one, and that of the request that has changed, unless this makes no such event.
pub record KeepsSpan (make : ℕ → Open → Option Event) (is : Open) (place n : ℕ) (s t : Span) : Type 0 where
  pub wider : (k : ℕ) → is_in s k ≡ true → is_in t k ≡ true
  pub own : is_in t place ≡ false → make place is ≡ None
  pub within : s.to ≤ n → t.to ≤ n

pub adds_keep : (make : ℕ → Open → Option Event) (is : Open) (place n : ℕ) (s t : Span) (may : Bool) → place < n → (may ≡ false → make place is ≡ None) → AddsIf may place s t → KeepsSpan make is place n s t
adds_keep make is place n s t true low none adds = record { wider = adds.wider; own = λ out. not_both t place adds.has out; within = λ within. adds.within n within low }
adds_keep make is place n s t false low none same = record {
  wider = λ k it. ap (λ (x : Span). is_in x k) same ∙ it;
  own = λ out. none refl;
  within = λ within. let to = ap (λ (x : Span). x.to) same in omega (arith, within, to);
}

pub joins_keep : (make : ℕ → Open → Option Event) (is : Open) (place n : ℕ) (other s t u : Span) → other.to ≤ n → KeepsSpan make is place n s t → Joins other t u → KeepsSpan make is place n s u
joins_keep make is place n other s t u low keeps joins = record {
  wider = λ k it. joins.wider k (keeps.wider k it);
  own = λ out. keeps.own (out_of t u place (joins.wider place) out);
  within = λ within. joins.within n (keeps.within within) low;
}

-- ---- a place is left out at which no request lands

pub skipped_due : (core : Core) (place : ℕ) (o : Open) (was now : Due) → slice_get core.requests place ≡ Some o → landing_at core place o ≡ None → Skips place was.landing now.landing → now ≡ record was { landing = now.landing } → IsDue core was → IsDue core now
skipped_due core place o was now there none skips rest due =
    let landing : Spans (landing_at core) core.requests now.landing =
    record { within = let within = due.landing.within in let to = skips.within in omega (arith, within, to); none = λ k p at out. by k p at out (k == place) refl } in
    subst (IsDue core) (sym rest) (record { landing = landing; admission = due.admission; pinning = due.pinning; note = due.note; «data» = due.data; unfailing = due.unfailing })
  where
    by : (k : ℕ) (p : Open) → slice_get core.requests k ≡ Some p → is_in now.landing k ≡ false → (b : Bool) → (k == place) ≡ b → landing_at core k p ≡ None
    by k p at out true here =
        let k_is : k ≡ place = eqb-true k place here in
        let its : o ≡ p = cc (sym there ∙ ap (slice_get core.requests) (sym k_is) ∙ at) in
        ap (λ (n : ℕ). landing_at core n p) k_is ∙ ap (landing_at core place) (sym its) ∙ none
    by k p at out false apart = due.landing.none k p at (out_of was.landing now.landing k (skips.others k (eqb-false k place apart)) out)

-- ---- a span that has become wider

-- It is one of what there is now, where each request outside was there, and what made none then makes none.
pub keep : (was now : ℕ → Open → Option Event) (before after : List Open) (s t : Span) → Spans was before s → t.to ≤ length after → ((k : ℕ) → is_in s k ≡ true → is_in t k ≡ true)
    → ((k : ℕ) (o : Open) → slice_get after k ≡ Some o → is_in t k ≡ false → (slice_get before k ≡ Some o) × (was k o ≡ None → now k o ≡ None)) → Spans now after t
keep was now before after s t spans within wider same = record {
  within = within;
  none = λ k o there out. let it = same k o there out in it.1 (spans.none k o it.0 (out_of s t k (wider k) out));
}
