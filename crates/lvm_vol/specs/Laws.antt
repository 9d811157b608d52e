-- Laws over histories alone.
use Rattle.std.specs.Prelude.{◌≡◌, ◌↔◌, ℕ, ◌+◌, Bool, true, false, ◌&&◌, not, nat_lt, List, [], ◌∷◌, ◌++◌, count_by, Some}
use Rattle.lvm_num.specs.Buffer.{Sector}
use Rattle.lvm_vol.specs.declared.entry.Vol.{Vol}
use Rattle.lvm_vol.specs.declared.entry.Vol.TheVariants.{Disk, Lv}
use Rattle.lvm_vol.specs.declared.entry.Outcome.{Outcome}
use Rattle.lvm_vol.specs.declared.entry.Outcome.TheVariants as outcome
use Rattle.lvm_vol.specs.Facts.{Request, Fact, Making, Split, Removed, Begun, Landed, Taken, Cut, same_vol, is_over, block_of}
use Rattle.lvm_vol.specs.May.{Known, is_open_in, source, change, known, May}
use Rattle.lvm_vol.specs.Legal.{begins_in, IsOutcomeOf, GotMay, Fits, Legal}

-- the entry concerns block b of the volume
abbrev pub is_about : Fact → Vol → ℕ → Bool
is_about (Making lv blocks m) vol b = same_vol (Lv lv) vol && nat_lt b blocks
is_about (Split from lv) vol b = same_vol (Lv lv) vol
is_about (Removed gone) vol b = same_vol gone vol
is_about (Begun r) vol b = r.write && is_over r vol b
is_about (Landed r how started got) vol b = is_over r vol b
is_about Cut vol b = true
is_about _ vol b = false

-- what ends a request so makes the value of the block known for certain
abbrev pub is_settling : Request → Outcome → Known → Bool
is_settling r outcome.Done k = r.write && is_open_in r k.open_writes
is_settling r outcome.Got k = not r.write && not k.loose
is_settling r _ k = false

-- the entry fixes the values of the block anew
abbrev pub is_fixing : Fact → Vol → ℕ → Known → Bool
is_fixing (Making lv blocks m) vol b k = same_vol (Lv lv) vol && nat_lt b blocks
is_fixing (Split from lv) vol b k = same_vol (Lv lv) vol
is_fixing (Landed r how started got) vol b k = is_over r vol b && is_settling r how k
is_fixing _ vol b k = false

-- What is known after one entry more is what the entry makes of what was known of the block's source.
abbrev pub KnownPush : Type 0
KnownPush = (facts : List Fact) (f : Fact) (vol : Vol) (b : ℕ) → known (facts ++ f ∷ []) vol b ≡ change f vol b (known facts (source f vol) b)

-- an entry that isn't about a block leaves what is known of it
abbrev pub OthersStay : Type 0
OthersStay = (facts : List Fact) (f : Fact) (vol : Vol) (b : ℕ) → is_about f vol b ≡ false → known (facts ++ f ∷ []) vol b ≡ known facts vol b

-- after a write that was open has landed as Done, the block has its value
abbrev pub DoneCloses : Type 0
DoneCloses = (facts : List Fact) (r : Request) (started : Bool) (got : List (List ℕ)) (vol : Vol) (b : ℕ)
    → is_over r vol b ≡ true → r.write ≡ true → is_open_in r (known facts vol b).open_writes ≡ true
    → (known (facts ++ Landed r outcome.Done started got ∷ []) vol b).values ≡ Some (block_of r.blocks r.at b ∷ [])

-- after a read of a block that isn't loose has landed as Got, the block has the value that it got
abbrev pub GotFixes : Type 0
GotFixes = (facts : List Fact) (r : Request) (started : Bool) (got : List (List ℕ)) (vol : Vol) (b : ℕ)
    → is_over r vol b ≡ true → r.write ≡ false → (known facts vol b).loose ≡ false
    → (known (facts ++ Landed r outcome.Got started got ∷ []) vol b).values ≡ Some (block_of got r.at b ∷ [])

-- a request that began and landed leaves no write of a block open where none was before
abbrev pub LandedCloses : Type 0
LandedCloses = (facts : List Fact) (r : Request) (how : Outcome) (started : Bool) (got : List (List ℕ)) (vol : Vol) (b : ℕ)
    → (known facts vol b).open_writes ≡ [] → (known (facts ++ Begun r ∷ [] ++ Landed r how started got ∷ []) vol b).open_writes ≡ []

-- a block of a disk, which has a single copy, is never loose
abbrev pub DisksAreTight : Type 0
DisksAreTight = (facts : List Fact) (d b : ℕ) → (known facts (Disk d) b).loose ≡ false

-- after a Cut no write is open
abbrev pub CutEndsAll : Type 0
CutEndsAll = (facts : List Fact) (vol : Vol) (b : ℕ) → (known (facts ++ Cut ∷ []) vol b).open_writes ≡ []

-- an entry that doesn't fix a block's values takes none away
abbrev pub MayGrows : Type 0
MayGrows = (facts : List Fact) (f : Fact) (vol : Vol) (b : ℕ) (x : Sector) → is_fixing f vol b (known facts vol b) ≡ false → May (known facts vol b) x → May (known (facts ++ f ∷ []) vol b) x

-- what stands before in a legal history is legal
abbrev pub LegalPrefix : Type 0
LegalPrefix = (past facts : List Fact) → Legal (past ++ facts) → Legal past

-- a legal history stays legal with a further entry that may follow it, and only with such a one
abbrev pub LegalPush : Type 0
LegalPush = (facts : List Fact) (f : Fact) → Legal (facts ++ f ∷ []) ↔ (Legal facts × Fits facts f)

-- a request with the next number may begin, land as one of its kind may, and be taken
abbrev pub LegalThrough : Type 0
LegalThrough = (facts : List Fact) (r : Request) (how : Outcome) (started : Bool) (got : List (List ℕ)) → Legal facts → r.id ≡ count_by (begins_in r.run) facts + 1
    → IsOutcomeOf how r started → GotMay (facts ++ Begun r ∷ []) r how got → Legal (facts ++ Begun r ∷ [] ++ Landed r how started got ∷ [] ++ Taken r ∷ [])
