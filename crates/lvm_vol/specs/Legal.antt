-- Which histories are legal.
use Rattle.std.specs.Prelude.{◌≡◌, ℕ, ◌+◌, ◌<◌, ◌≤◌, Bool, true, false, ◌==◌, List, [], ◌∷◌, ◌++◌, length, count_by, IsTrue, IsFalse}
use Rattle.std.specs.List.{list_any}
use Rattle.lvm_vol.specs.declared.entry.Outcome.{Outcome}
use Rattle.lvm_vol.specs.declared.entry.Outcome.TheVariants as outcome
use Rattle.lvm_vol.specs.Facts.{Request, Fact, Begun, Landed, Taken, On, IsInList, same_request, block_of}
use Rattle.lvm_vol.specs.May.{known, May}

-- the entry begins a request of this run
abbrev pub begins_in : ℕ → Fact → Bool
begins_in run (Begun r) = r.run == run
begins_in run _ = false

-- the entry lands this request
abbrev pub lands : Request → Fact → Bool
lands r (Landed s how started got) = same_request r s
lands r _ = false

-- the entry takes this request's answer
abbrev pub takes : Request → Fact → Bool
takes r (Taken s) = same_request r s
takes r _ = false

-- how a request of this kind may end
abbrev pub IsOutcomeOf : Outcome → Request → Bool → Type 0
IsOutcomeOf outcome.Done r started = IsTrue r.write
IsOutcomeOf outcome.Lost r started = IsTrue r.write
IsOutcomeOf outcome.Got r started = IsFalse r.write
IsOutcomeOf outcome.ReadFailed r started = IsFalse r.write
IsOutcomeOf outcome.NoFresh r started = IsFalse started
IsOutcomeOf outcome.Off r started = Unit {0}
IsOutcomeOf outcome.Dark r started = Unit {0}

-- a read has got as many blocks as it asked for, each a value that the block may have then
pub record Gets (past : List Fact) (r : Request) (got : List (List ℕ)) : Type 0 where
  pub whole : length got ≡ r.count
  pub allowed : (b : ℕ) → r.at ≤ b → b < r.at + r.count → May (known past r.vol b) (block_of got r.at b)

abbrev pub GotMay : List Fact → Request → Outcome → List (List ℕ) → Type 0
GotMay past r outcome.Got got = Gets past r got
GotMay past r _ got = Unit {0}

-- a request that began lands, for the first time, as one of its kind may
pub record LandsOnce (past : List Fact) (r : Request) (how : Outcome) (started : Bool) (got : List (List ℕ)) : Type 0 where
  pub began : IsInList (Begun r) past
  pub first : list_any (lands r) past ≡ false
  pub kind : IsOutcomeOf how r started
  pub reads : GotMay past r how got

-- its client takes, for the first time, the answer of a request that has landed
pub record TakenOnce (past : List Fact) (r : Request) : Type 0 where
  pub began : IsInList (Begun r) past
  pub answered : list_any (lands r) past ≡ true
  pub first : list_any (takes r) past ≡ false

-- the moment is later than each at which a group was varied on
abbrev pub IsLater : List Fact → ℕ → Type 0
IsLater [] moment = Unit {0}
IsLater (On earlier ∷ facts) moment = (earlier < moment) × IsLater facts moment
IsLater (f ∷ facts) moment = IsLater facts moment

-- the entry may follow those before it
abbrev pub Fits : List Fact → Fact → Type 0
Fits past (Begun r) = r.id ≡ count_by (begins_in r.run) past + 1
Fits past (Landed r how started got) = LandsOnce past r how started got
Fits past (Taken r) = TakenOnce past r
Fits past (On moment) = IsLater past moment
Fits past _ = Unit {0}

-- each of these entries may follow those before it
abbrev pub LegalFrom : List Fact → List Fact → Type 0
LegalFrom past [] = Unit {0}
LegalFrom past (f ∷ facts) = Fits past f × LegalFrom (past ++ f ∷ []) facts

abbrev pub Legal : List Fact → Type 0
Legal facts = LegalFrom [] facts
