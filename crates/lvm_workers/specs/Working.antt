-- What each step of a worker does to its pass.
use Rattle.std.specs.Prelude.{◌≡◌, ◌<◌, ◌+◌, ℕ, ◌++◌, Bool, true, false, List, [], ◌∷◌}
use Rattle.lvm_vol.specs.Facts.{Request, Fact, Begun, Taken}
use Rattle.lvm_turn.specs.Views.{View}
use Rattle.lvm_workers.specs.declared.asking.Answer.{Answer}
use Rattle.lvm_workers.specs.declared.asking.Answer.TheVariants as answer
use Rattle.lvm_workers.specs.declared.asking.Awaited.{Awaited}
use Rattle.lvm_workers.specs.declared.service.Asked.{Asked}
use Rattle.lvm_workers.specs.declared.service.Asked.TheVariants as asked
use Rattle.lvm_workers.specs.declared.service.Seen.{Seen}
use Rattle.lvm_workers.specs.declared.service.Seen.TheVariants as seen
use Rattle.lvm_workers.specs.declared.work.Served.{Served}
use Rattle.lvm_workers.specs.declared.work.Served.TheVariants as served
use Rattle.lvm_workers.specs.Serving.{AskEnters}
use Rattle.lvm_workers.specs.Knowing.{WasUnheard, first_own}

-- the entries that are the worker's own
abbrev pub own_of : View → List Fact
own_of v = first_own v.clients

-- the last that the worker did is to begin the request of this number
pub record AwaitsIn (id : ℕ) (v : View) : Type 0 where
  pub before : List Fact
  pub request : Request
  pub number : request.id ≡ id
  pub last : own_of v ≡ before ++ Begun request ∷ []

-- it has asked for a request
pub record AskTells (Asks : Request → Type 0) (WasRefused : Asked → View → Type 0) (client : ℕ) (old : View) (answer : Asked) (new : View) : Type 0 where
  pub more : List Fact
  pub own : own_of new ≡ own_of old ++ more
  pub enters : AskEnters Asks (λ said. WasRefused said new) client answer more

-- it has looked for an answer
pub data LookTells (id : ℕ) (old : View) (answer : Seen) (new : View) : Type 0 where
  IsTaken : (t : Request) → t.id ≡ id → answer ≡ seen.Taken → own_of new ≡ own_of old ++ Taken t ∷ [] → LookTells id old answer new
  IsNotYet : (answer ≡ seen.Taken → ⊥) → own_of new ≡ own_of old → LookTells id old answer new

-- what the answer says
abbrev pub asked_of : Answer → Asked
asked_of (answer.Begun awaited) = asked.Begun awaited.id
asked_of answer.Passed = asked.Full
asked_of answer.Refused = asked.Refused

-- nothing was looked for yet
abbrev pub IsUnseen : Answer → Type 0
IsUnseen (answer.Begun awaited) = awaited.idle ≡ 0
IsUnseen _ = Unit {0}

-- it was looked for once more, and this was seen
abbrev pub seen_so : Seen → Awaited → Awaited
seen_so seen.Idle a = record a { idle = a.idle + 1 }
seen_so _ a = a

-- a million looks at which nothing was heard are the most, and with the last of them it is given up
abbrev pub IsWaited : Bool → Awaited → Type 0
IsWaited true a = a.idle < 1000000
IsWaited false a = a.idle ≡ 1000000

-- it has waited for one, and this says whether it was taken
abbrev pub WaitTells : (List ℕ → ℕ) → ℕ → View → Bool → View → Type 0
WaitTells waits id old true new = (t : Request) × (t.id ≡ id) × (own_of new ≡ own_of old ++ Taken t ∷ [])
WaitTells waits id old false new = (own_of new ≡ own_of old) × WasUnheard waits old new

-- it has asked for a request that is drawn, and waited for its answer; or the request wasn't taken, and a later one may be, or none
pub data ServeTells (Asks : Request → Type 0) (WasRefused : Asked → View → Type 0) (waits : List ℕ → ℕ) (old : View) (answer : Served) (new : View) : Type 0 where
  IsAnswered : (r t : Request) → Asks r → t.id ≡ r.id → answer ≡ served.Answered → own_of new ≡ own_of old ++ Begun r ∷ Taken t ∷ [] → ServeTells Asks WasRefused waits old answer new
  IsUnheard : (r : Request) → Asks r → answer ≡ served.Unheard → own_of new ≡ own_of old ++ Begun r ∷ [] → WasUnheard waits old new → ServeTells Asks WasRefused waits old answer new
  IsPassed : WasRefused asked.Full new → answer ≡ served.Passed → own_of new ≡ own_of old → ServeTells Asks WasRefused waits old answer new
  IsRefused : WasRefused asked.Refused new → answer ≡ served.Refused → own_of new ≡ own_of old → ServeTells Asks WasRefused waits old answer new
