-- A session is over: the requests that are open land, one after another, and what the disks may show then agrees with the history.
use Rattle.lvm_vol.specs.Facts.{Landed as HasLanded, Request, Fact, Taken, IsInList}
use Rattle.std.specs.Prelude.{◌≡◌, ℕ, Bool, true, false, List, [], ◌∷◌, ◌++◌, Some, IsTrue, IsFalse}
use Rattle.lvm_vol.specs.declared.entry.Vol.TheVariants.{Lv}
use Rattle.lvm_vol.specs.declared.entry.Outcome.{Outcome}
use Rattle.lvm_vol.specs.May.{known, cut}
use Rattle.lvm_vol.specs.Legal.{Fits, Legal}
use Rattle.lvm_invariant.specs.State.{Marks, View, ModelPhase, Going, Queued, ModelState, has_landed}
use Rattle.lvm_invariant.specs.Crash.{IsCrash, BlockKept, IsPossible}

-- no place stands there twice
abbrev pub IsDistinct : List ℕ → Type 0
IsDistinct [] = Unit {0}
IsDistinct (i ∷ places) = (IsInList i places → ⊥) × IsDistinct places

-- a request of the history that hasn't landed
pub record IsUnlanded (s : ModelState) (i : ℕ) : Type 0 where
  pub req : Queued
  pub there : s.queue i ≡ Some req
  pub request : IsFalse req.step
  pub unlanded : IsFalse (has_landed req.phase)

abbrev pub is_going : ModelPhase → Bool
is_going Going = true
is_going _ = false

-- the places of the requests that are open, and which of them have started
pub record AreOpen (s : ModelState) (places : List ℕ) (started : ℕ → Bool) : Type 0 where
  pub once : IsDistinct places
  pub each : (i : ℕ) → IsInList i places → IsUnlanded s i
  pub all : (i : ℕ) (r : Queued) → s.queue i ≡ Some r → IsFalse r.step → IsFalse (has_landed r.phase) → IsInList i places
  pub begun_data : (i : ℕ) (r : Queued) → s.queue i ≡ Some r → IsTrue r.write → started i ≡ is_going r.phase

-- each of them lands so
abbrev pub landings : Outcome → (ℕ → Request) → (ℕ → Bool) → List ℕ → List Fact
landings how name started [] = []
landings how name started (i ∷ places) = HasLanded (name i) how (started i) [] ∷ landings how name started places

-- the history is legal, and each image that the disks may leave agrees with it
pub record IsLegalOver (s : ModelState) (facts : List Fact) : Type 0 where
  pub legal : Legal facts
  pub kept : (v : View) (marks : Marks) (lv b : ℕ) → IsCrash s v → IsPossible s marks → BlockKept s v marks (cut b (known facts (Lv lv) b)) lv b

-- and so once an answer is taken
abbrev pub OverStays : Type 0
OverStays = (s : ModelState) (facts : List Fact) (q : Request) → Fits facts (Taken q) → IsLegalOver s facts → IsLegalOver s (facts ++ Taken q ∷ [])
