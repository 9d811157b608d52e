-- A worker's steps put together: a request that is drawn, and all of its job.
use Rattle.std.proofs.Common.{◌≡◌, ◌≤◌, ◌<◌, ◌+◌, ◌-◌, ℕ, suc, true, false, List, [], ◌∷◌, ◌++◌, refl, sym, ap, ◌∙◌, subst, append_assoc, inl, inr, arith}
use Rattle.std.proofs.lemmas.List.{append-nil}
use Rattle.rand_pcg.specs.Lcg.{Lcg}
use Rattle.lvm_vol.specs.Facts.{Request, Fact, Begun, Taken}
use Rattle.lvm_vol.specs.Fronts.{NoneFell}
use Rattle.lvm_turn.specs.Views.{View}
use Rattle.lvm_workers.specs.declared.service.Asked.{Asked}
use Rattle.lvm_workers.specs.declared.service.Asked.TheVariants as asked
use Rattle.lvm_workers.specs.declared.service.Seen.{Seen}
use Rattle.lvm_workers.specs.declared.service.Seen.TheVariants as seen
use Rattle.lvm_workers.specs.declared.words.Draw.{Draw}
use Rattle.lvm_workers.specs.declared.work.Served.TheVariants as served
use Rattle.lvm_workers.specs.Draws.{after_draw, after_draws, draw_at, seeded}
use Rattle.lvm_workers.specs.Knowing.{TallyHasCause, Knows, WasUnheard}
use Rattle.lvm_workers.specs.Making.{AllAnswered, HasMade, Made, OnePassed, OneServed, OneWaits, Served}
use Rattle.lvm_workers.specs.Serving.{AskEnters, HasBegun, WasRefused}
use Rattle.lvm_workers.specs.Working.{AskTells, AwaitsIn, IsAnswered, IsNotYet, IsPassed, IsRefused, IsTaken, IsUnheard, LookTells, ServeTells, WaitTells, own_of}
use Rattle.lvm_workers.proofs.KnowingLemmas.{rose_before}

-- ---- a look

not_taken : (id : ℕ) (old new : View) (answer : Seen) → (answer ≡ seen.Taken → ⊥) → LookTells id old answer new → own_of new ≡ own_of old
not_taken id old new answer not (IsTaken t same is grew) = absurd (not is)
not_taken id old new answer not (IsNotYet never stays) = stays

pub moved_stays : (id : ℕ) (old new : View) → LookTells id old seen.Moved new → own_of new ≡ own_of old
moved_stays id old new tells = not_taken id old new seen.Moved (λ e. cc e) tells

pub idle_stays : (id : ℕ) (old new : View) → LookTells id old seen.Idle new → own_of new ≡ own_of old
idle_stays id old new tells = not_taken id old new seen.Idle (λ e. cc e) tells

-- behind looks at which the answer wasn't there
pub taken_then : (waits : List ℕ → ℕ) (id : ℕ) (first old new : View) → own_of old ≡ own_of first → LookTells id old seen.Taken new → WaitTells waits id first true new
taken_then waits id first old new so_far (IsTaken t same is grew) = (t, same, grew ∙ ap (λ (l : List Fact). l ++ Taken t ∷ []) so_far)
taken_then waits id first old new so_far (IsNotYet never stays) = absurd (never refl)

-- ---- a request

abbrev number_of : Asked → ℕ
number_of (asked.Begun n) = n
number_of asked.Full = 0
number_of asked.Refused = 0

-- a request that has begun under this number
pub record HasAsked (Asks : Request → Type 0) (id : ℕ) (old new : View) : Type 0 where
  pub request : Request
  pub asks : Asks request
  pub number : request.id ≡ id
  pub grew : own_of new ≡ own_of old ++ Begun request ∷ []

module _ (Asks : Request → Type 0) (Refused : Asked → View → Type 0) (client : ℕ) (old new : View) where
  pub has_asked : (id : ℕ) → AskTells Asks Refused client old (asked.Begun id) new → HasAsked Asks id old new
  has_asked id tells = by tells.enters
    where
      by : AskEnters Asks (λ said. Refused said new) client (asked.Begun id) tells.more → HasAsked Asks id old new
      by (HasBegun r asks same is entered) = record { request = r; asks = asks; number = sym (ap number_of is); grew = tells.own ∙ ap (λ (l : List Fact). own_of old ++ l) entered }
      by (WasRefused why not entered) = absurd (not id refl)

  pub now_awaits : (id : ℕ) → AskTells Asks Refused client old (asked.Begun id) new → AwaitsIn id new
  now_awaits id tells = let it = has_asked id tells in record { before = own_of old; request = it.request; number = it.number; last = it.grew }

  module _ (waits : List ℕ → ℕ) where
    -- the answer with which it wasn't taken, and nothing of its own was entered
    wasnt_taken : (said : Asked) → ((id : ℕ) → said ≡ asked.Begun id → ⊥) → AskTells Asks Refused client old said new → Refused said new × (own_of new ≡ own_of old)
    wasnt_taken said not tells = by tells.enters
      where
        by : AskEnters Asks (λ it. Refused it new) client said tells.more → Refused said new × (own_of new ≡ own_of old)
        by (HasBegun r asks same is entered) = absurd (not r.id is)
        by (WasRefused why none entered) = (why, tells.own ∙ ap (λ (l : List Fact). own_of old ++ l) entered ∙ append-nil (own_of old))

    pub serve_passed : AskTells Asks Refused client old asked.Full new → ServeTells Asks Refused waits old served.Passed new
    serve_passed tells = let it = wasnt_taken asked.Full (λ id e. cc e) tells in IsPassed it.0 refl it.1

    pub serve_refused : AskTells Asks Refused client old asked.Refused new → ServeTells Asks Refused waits old served.Refused new
    serve_refused tells = let it = wasnt_taken asked.Refused (λ id e. cc e) tells in IsRefused it.0 refl it.1

module _ (Asks : Request → Type 0) (Refused : Asked → View → Type 0) (waits : List ℕ → ℕ) (client id : ℕ) (old mid new : View) (tells : AskTells Asks Refused client old (asked.Begun id) mid) where
  pub serve_answered : WaitTells waits id mid true new → ServeTells Asks Refused waits old served.Answered new
  serve_answered took =
      let it = has_asked Asks Refused client old mid id tells in
      IsAnswered it.request took.0 it.asks (took.1 ∙ sym it.number) refl
      (took.2 ∙ ap (λ (l : List Fact). l ++ Taken took.0 ∷ []) it.grew ∙ append_assoc (own_of old) (Begun it.request ∷ []) (Taken took.0 ∷ []))

  pub serve_unheard : ((a b : List ℕ) → NoneFell a b → waits a ≤ waits b) → Knows old mid → WaitTells waits id mid false new → ServeTells Asks Refused waits old served.Unheard new
  serve_unheard grow knows unheard =
      let it = has_asked Asks Refused client old mid id tells in
      IsUnheard it.request it.asks refl (unheard.0 ∙ it.grew)
      (rose_before 1000000 (waits old.counts) (waits mid.counts) (waits new.counts) (grow old.counts mid.counts knows.counts) unheard.1)

-- ---- a job

module _ (asks : ℕ → Draw → Request → Type 0) (Refused : Asked → View → Type 0) (waits : List ℕ → ℕ) (seed requests : ℕ) where
  abbrev Here : ℕ → Request → Type 0
  Here n = asks n (draw_at (after_draws n (seeded seed)))

  module _ (n b : ℕ) (old new : View) (so_far : Served asks (seeded seed) n b (own_of old)) where
    pub one_served : ServeTells (Here n) Refused waits old served.Answered new → Served asks (seeded seed) (n + 1) (b + 1) (own_of new)
    one_served (IsAnswered r t is same said grew) = subst (Served asks (seeded seed) (n + 1) (b + 1)) (sym grew) (OneServed so_far r t is same)
    one_served (IsUnheard r is said grew unheard) = absurd (cc said)
    one_served (IsPassed why said stays) = absurd (cc said)
    one_served (IsRefused why said stays) = absurd (cc said)

    pub one_passed : ServeTells (Here n) Refused waits old served.Passed new → Served asks (seeded seed) (n + 1) b (own_of new)
    one_passed (IsPassed why said stays) = subst (Served asks (seeded seed) (n + 1) b) (sym stays) (OnePassed so_far)
    one_passed (IsAnswered r t is same said grew) = absurd (cc said)
    one_passed (IsUnheard r is said grew unheard) = absurd (cc said)
    one_passed (IsRefused why said stays) = absurd (cc said)

    -- it may end early then
    module _ (Ended : Type 0) where
      pub made_unheard : Ended → n < requests → ServeTells (Here n) Refused waits old served.Unheard new → HasMade asks Ended seed requests (b + 1) (own_of new)
      made_unheard ended low (IsUnheard r is said grew unheard) = record { drawn = n + 1; most = omega (arith, low); whole = inr ended; made = subst (λ l. Made asks (seeded seed) (n + 1) (b + 1) l) (sym grew) (OneWaits so_far r is) }
      made_unheard ended low (IsAnswered r t is same said grew) = absurd (cc said)
      made_unheard ended low (IsPassed why said stays) = absurd (cc said)
      made_unheard ended low (IsRefused why said stays) = absurd (cc said)

      pub made_refused : Ended → n < requests → ServeTells (Here n) Refused waits old served.Refused new → HasMade asks Ended seed requests b (own_of new)
      made_refused ended low (IsRefused why said stays) = record { drawn = n + 1; most = omega (arith, low); whole = inr ended; made = AllAnswered (subst (Served asks (seeded seed) (n + 1) b) (sym stays) (OnePassed so_far)) }
      made_refused ended low (IsPassed why said stays) = absurd (cc said)
      made_refused ended low (IsAnswered r t is same said grew) = absurd (cc said)
      made_refused ended low (IsUnheard r is said grew unheard) = absurd (cc said)

  pub made_all : (Ended : Type 0) (n b : ℕ) (now : View) → n ≡ requests → Served asks (seeded seed) n b (own_of now) → HasMade asks Ended seed requests b (own_of now)
  made_all Ended n b now whole so_far = record { drawn = n; most = omega (arith, whole); whole = inl whole; made = AllAnswered so_far }

-- why a request wasn't taken, or nothing was heard of it
pub why_passed : (Asks : Request → Type 0) (Refused : Asked → View → Type 0) (waits : List ℕ → ℕ) (old new : View) → ServeTells Asks Refused waits old served.Passed new → Refused asked.Full new
why_passed Asks Refused waits old new (IsPassed why said stays) = why
why_passed Asks Refused waits old new (IsAnswered r t is same said grew) = absurd (cc said)
why_passed Asks Refused waits old new (IsUnheard r is said grew unheard) = absurd (cc said)
why_passed Asks Refused waits old new (IsRefused why said stays) = absurd (cc said)

pub why_refused : (Asks : Request → Type 0) (Refused : Asked → View → Type 0) (waits : List ℕ → ℕ) (old new : View) → ServeTells Asks Refused waits old served.Refused new → Refused asked.Refused new
why_refused Asks Refused waits old new (IsRefused why said stays) = why
why_refused Asks Refused waits old new (IsAnswered r t is same said grew) = absurd (cc said)
why_refused Asks Refused waits old new (IsUnheard r is said grew unheard) = absurd (cc said)
why_refused Asks Refused waits old new (IsPassed why said stays) = absurd (cc said)

pub why_unheard : (Asks : Request → Type 0) (Refused : Asked → View → Type 0) (waits : List ℕ → ℕ) (old new : View) → ServeTells Asks Refused waits old served.Unheard new → WasUnheard waits old new
why_unheard Asks Refused waits old new (IsUnheard r is said grew unheard) = unheard
why_unheard Asks Refused waits old new (IsAnswered r t is same said grew) = absurd (cc said)
why_unheard Asks Refused waits old new (IsPassed why said stays) = absurd (cc said)
why_unheard Asks Refused waits old new (IsRefused why said stays) = absurd (cc said)

-- the cause that comes with one, and that of a job which ended so
pub caused_by_refusal : (Refused : View → Type 0) (waits : List ℕ → ℕ) (first now : View) (b u : ℕ) → Refused now → TallyHasCause Refused waits first now record { begun = b; unbegun = u; unheard = false }
caused_by_refusal Refused waits first now b u why = record { unbegun = λ some_are. inl why; unheard = λ is. absurd (cc is) }

pub caused_by_silence : (Refused : View → Type 0) (waits : List ℕ → ℕ) (first now : View) (b u : ℕ) → WasUnheard waits first now → TallyHasCause Refused waits first now record { begun = b; unbegun = u; unheard = true }
caused_by_silence Refused waits first now b u unheard = record { unbegun = λ some_are. inr unheard; unheard = λ is. unheard }

pub caused_at_end : (Refused : View → Type 0) (waits : List ℕ → ℕ) (first now : View) (b n requests : ℕ) → n ≡ requests → (b < n → Refused now) → TallyHasCause Refused waits first now record { begun = b; unbegun = requests - b; unheard = false }
caused_at_end Refused waits first now b n requests end why = record { unbegun = λ some_are. inl (why (omega (arith, end, some_are))); unheard = λ is. absurd (cc is) }

-- the words of one request more are drawn
pub drawn_more : (n : ℕ) (g : Lcg) → after_draw (after_draws n g) ≡ after_draws (n + 1) g
drawn_more n g = let e : suc n ≡ n + 1 = omega arith in ap (λ k. after_draws k g) e
