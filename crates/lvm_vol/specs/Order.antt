-- Facts of one run, each of which follows those before it.
use Rattle.std.specs.Prelude.{◌≡◌, ℕ, ◌+◌, ◌^◌, ◌<◌, true, false, List, [], ◌∷◌, ◌++◌, length, MatchBool}
use Rattle.std.specs.List.{list_any}
use Rattle.lvm_vol.specs.declared.entry.Outcome.{Outcome}
use Rattle.lvm_vol.specs.Facts.{Request, Fact, Begun, Landed, Taken, IsInList, begun}
use Rattle.lvm_vol.specs.Log.{lands_id, takes_id, is_got}

-- a write has a block of data for each that it asks, a read has none; blocks have numbers of 64 bits
abbrev pub HasItsData : Request → Type 0
HasItsData r = MatchBool r.write (length r.blocks ≡ r.count) (r.blocks ≡ []) × (r.at + r.count < 2 ^ 64)

-- what a request got that landed so
abbrev pub IsGotOf : Request → Outcome → List (List ℕ) → Type 0
IsGotOf r how got = MatchBool (is_got how) ((length got ≡ r.count) × (r.write ≡ true → got ≡ r.blocks)) (got ≡ [])

-- the entry of this run is about a request that is at this step: it is the next, open, or answered
abbrev pub Follows : ℕ → List Fact → Fact → Type 0
Follows run past (Begun r) = (r.run ≡ run) × (r.id ≡ length (begun past) + 1) × HasItsData r
Follows run past (Landed r how started got) = IsInList (Begun r) past × (list_any (lands_id r.id) past ≡ false) × IsGotOf r how got
Follows run past (Taken r) = IsInList (Begun r) past × (list_any (lands_id r.id) past ≡ true) × (list_any (takes_id r.id) past ≡ false)
Follows run past _ = Unit {0}

abbrev pub Ordered : ℕ → List Fact → List Fact → Type 0
Ordered run past [] = Unit {0}
Ordered run past (f ∷ facts) = Follows run past f × Ordered run (past ++ f ∷ []) facts
