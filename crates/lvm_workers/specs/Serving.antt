-- What a value gives that workers share, by its history.
use Rattle.std.specs.Prelude.{◌≡◌, ℕ, ◌++◌, List, [], ◌∷◌, Option}
use Rattle.lvm_num.specs.Buffer.{Sector}
use Rattle.lvm_num.specs.Counting.{Rose}
use Rattle.lvm_vol.specs.Facts.{Request, Fact, Begun, Taken}
use Rattle.lvm_vol.specs.Fronts.{Told, own, NoneFell}
use Rattle.lvm_turn.specs.Rules.{fixed_of}
use Rattle.lvm_workers.specs.declared.service.Asked.{Asked}
use Rattle.lvm_workers.specs.declared.service.Asked.TheVariants as asked
use Rattle.lvm_workers.specs.declared.service.Seen.{Seen}
use Rattle.lvm_workers.specs.declared.service.Seen.TheVariants as seen

-- none of these entries is of another client
abbrev pub NoOthers : ℕ → List Fact → Type 0
NoOthers client more = (c : ℕ) → (c ≡ client → ⊥) → own c more ≡ []

-- The request that was asked for has begun, and that is all that was entered; or it isn't taken, for a reason that goes with the answer, and nothing was.
pub data AskEnters (Asks : Request → Type 0) (Refuses : Asked → Type 0) (client : ℕ) (answer : Asked) (more : List Fact) : Type 0 where
  HasBegun : (r : Request) → Asks r → r.client ≡ client → answer ≡ asked.Begun r.id → more ≡ Begun r ∷ [] → AskEnters Asks Refuses client answer more
  WasRefused : Refuses answer → ((id : ℕ) → answer ≡ asked.Begun id → ⊥) → more ≡ [] → AskEnters Asks Refuses client answer more

-- The answer of the client's request is taken, or nothing of the client's own was entered.
pub data LookEnters (client id : ℕ) (answer : Seen) (more : List Fact) : Type 0 where
  IsTaken : (t : Request) → t.id ≡ id → answer ≡ seen.Taken → own client more ≡ Taken t ∷ [] → LookEnters client id answer more
  IsNotYet : (answer ≡ seen.Taken → ⊥) → own client more ≡ [] → LookEnters client id answer more

-- the last that the client did is to begin the request of this number
pub record Awaits (client id : ℕ) (entries : List Fact) : Type 0 where
  pub before : List Fact
  pub request : Request
  pub number : request.id ≡ id
  pub last : own client entries ≡ before ++ Begun request ∷ []

module _ {V : Type 0} (tells : V → Told) (past : V → Option (List (List Sector))) (always : V → Type 0) where
  -- what x has become, with these entries more
  pub record Grows (x : V) (more : List Fact) (y : V) : Type 0 where
    pub entries_are : (tells y).entries ≡ (tells x).entries ++ more
    pub fixed_same : fixed_of tells past y ≡ fixed_of tells past x
    pub none_fell : NoneFell (tells x).counts (tells y).counts
    pub always_holds : always y

  -- what is given to a client that asks for a request
  pub record AskGives (Asks : Request → Type 0) (Refuses : V → Asked → Type 0) (client : ℕ) (x : V) (answer : Asked) (y : V) : Type 0 where
    pub more : List Fact
    pub grows : Grows x more y
    pub others : NoOthers client more
    pub enters : AskEnters Asks (Refuses x) client answer more

  -- what is given to one that looks for its answer, and what it makes of the value
  pub record LookGives (waits : List ℕ → ℕ) (Looks : V → Seen → V → Type 0) (client id : ℕ) (x : V) (answer : Seen) (y : V) : Type 0 where
    pub more : List Fact
    pub grows : Grows x more y
    pub others : NoOthers client more
    pub enters : LookEnters client id answer more
    pub makes : Looks x answer y
    pub idle : answer ≡ seen.Idle → Rose (waits (tells x).counts) (waits (tells y).counts)
