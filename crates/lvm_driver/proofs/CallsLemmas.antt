-- What a call of a client leaves of the table.
use Rattle.std.proofs.Common.{◌≡◌, ◌≤◌, ◌+◌, ℕ, Bool, true, false, List, [], ◌∷◌, ◌++◌, Option, Some, None, length, length-append, slice_get, refl, sym, ◌∙◌, ap, arith}
use Rattle.std.specs.Prelude.{MatchOption, Result, Ok, Err, is_none, position}
use Rattle.lvm_vol.specs.declared.entry.Outcome.{Outcome}
use Rattle.lvm_vol.specs.declared.entry.Outcome.TheVariants as outcome
use Rattle.lvm_vol.specs.Log.{blocks_begun, next_id}
use Rattle.lvm_path.specs.declared.ask.Ask.{Ask}
use Rattle.lvm_path.specs.Asks.{count_of}
use Rattle.lvm_session.specs.declared.answers.AskFault.{AskFault}
use Rattle.lvm_session.specs.declared.answers.Taken.{Taken}
use Rattle.lvm_session.specs.declared.answers.Taken.TheVariants as answer
use Rattle.lvm_session.specs.declared.open.Open.{Open}
use Rattle.lvm_session.specs.State.{Core}
use Rattle.lvm_session.specs.Judging.{is_waiting}
use Rattle.lvm_session.specs.Calls.{after_take, ask_fault, is_asked, new_open, submitted, taken_as, SubmitGives, TakeAt, TakeGives, TakesLanded}

-- ---- Submit

module _ (old new : Core) (client : ℕ) (ask : Ask) (bytes : Option (List ℕ)) where
  -- a request that is taken has begun
  pub begun : (id : ℕ) → SubmitGives old new client ask bytes (Ok id) → new ≡ submitted old client ask bytes
  begun id gives = by (ask_fault old ask) gives
    where
      by : (f : Option AskFault) → MatchOption f ((◌≡◌ {A = Result ℕ AskFault} (Ok id) (Ok (next_id old.history))) × (new ≡ submitted old client ask bytes)) (λ (why : AskFault). (◌≡◌ {A = Result ℕ AskFault} (Ok id) (Err why)) × (new ≡ old)) → new ≡ submitted old client ask bytes
      by None it = it.1
      by (Some why) it = absurd (cc it.0)

  -- and one that isn't leaves all as it was
  pub refused : (why : AskFault) → SubmitGives old new client ask bytes (Err why) → new ≡ old
  refused why gives = by (ask_fault old ask) gives
    where
      by : (f : Option AskFault) → MatchOption f ((◌≡◌ {A = Result ℕ AskFault} (Err why) (Ok (next_id old.history))) × (new ≡ submitted old client ask bytes)) (λ (w : AskFault). (◌≡◌ {A = Result ℕ AskFault} (Err why) (Err w)) × (new ≡ old)) → new ≡ old
      by None it = absurd (cc it.0)
      by (Some w) it = it.1

  pub some : new ≡ submitted old client ask bytes → 1 ≤ length new.requests
  some is =
      let long : length new.requests ≡ length (old.requests ++ new_open (next_id old.history) client ask (blocks_begun old.history.facts) ∷ []) = ap (λ (core : Core). length core.requests) is in
      let more : length (old.requests ++ new_open (next_id old.history) client ask (blocks_begun old.history.facts) ∷ []) ≡ length old.requests + 1 = length-append old.requests (new_open (next_id old.history) client ask (blocks_begun old.history.facts) ∷ []) in
      omega (arith, long, more)

-- ---- Take

-- it is an answer of a request that has landed
abbrev is_taken : Taken → Bool
is_taken answer.Done = true
is_taken (answer.Got place count) = true
is_taken answer.Lost = true
is_taken answer.ReadFailed = true
is_taken answer.NoFresh = true
is_taken answer.Off = true
is_taken answer.Dark = true
is_taken answer.NotYet = false
is_taken answer.Unknown = false

landed_taken : (how : Outcome) (place count : ℕ) → is_taken (taken_as how place count) ≡ true
landed_taken outcome.Done place count = refl
landed_taken outcome.Got place count = refl
landed_taken outcome.Lost place count = refl
landed_taken outcome.ReadFailed place count = refl
landed_taken outcome.NoFresh place count = refl
landed_taken outcome.Off place count = refl
landed_taken outcome.Dark place count = refl

pub other_taken : (a : Taken) → (a ≡ answer.NotYet → ⊥) → (a ≡ answer.Unknown → ⊥) → is_taken a ≡ true
other_taken answer.Done yet known = refl
other_taken (answer.Got place count) yet known = refl
other_taken answer.Lost yet known = refl
other_taken answer.ReadFailed yet known = refl
other_taken answer.NoFresh yet known = refl
other_taken answer.Off yet known = refl
other_taken answer.Dark yet known = refl
other_taken answer.NotYet yet known = absurd (yet refl)
other_taken answer.Unknown yet known = absurd (known refl)

-- a request that had landed has left the table
pub record HasLeft (old new : Core) : Type 0 where
  pub place : ℕ
  pub request : Open
  pub there : slice_get old.requests place ≡ Some request
  pub landed : is_waiting request ≡ false
  pub is : new ≡ after_take old place request.request.id

module _ (old new : Core) (client id : ℕ) (answered : Taken) (gives : TakeGives old new client id answered) where
  pub left : is_taken answered ≡ true → HasLeft old new
  left is = by (position (is_asked client id) old.requests) gives
    where
      at : (place : ℕ) (o : Open) → slice_get old.requests place ≡ Some o → (l : Option Outcome) → o.landed ≡ l → TakesLanded old new place o answered l → HasLeft old new
      at place o there None not it = absurd (let e : true ≡ false = sym is ∙ ap is_taken it.0 in cc e)
      at place o there (Some how) landed it = record { place = place; request = o; there = there; landed = ap is_none landed; is = it.1 }

      by : (p : Option ℕ) → MatchOption p ((answered ≡ answer.Unknown) × (new ≡ old)) (λ (place : ℕ). TakeAt old new place answered) → HasLeft old new
      by None it = absurd (let e : true ≡ false = sym is ∙ ap is_taken it.0 in cc e)
      by (Some place) it = at place it.0 it.1 it.0.landed refl it.2

  pub stayed : is_taken answered ≡ false → new ≡ old
  stayed is = by (position (is_asked client id) old.requests) gives
    where
      at : (place : ℕ) (o : Open) (l : Option Outcome) → TakesLanded old new place o answered l → new ≡ old
      at place o None it = it.1
      at place o (Some how) it = absurd (let e : true ≡ false = sym (ap is_taken it.0 ∙ landed_taken how o.place (count_of o.request.ask)) ∙ is in cc e)

      by : (p : Option ℕ) → MatchOption p ((answered ≡ answer.Unknown) × (new ≡ old)) (λ (place : ℕ). TakeAt old new place answered) → new ≡ old
      by None it = it.1
      by (Some place) it = at place it.0 it.0.landed it.2
