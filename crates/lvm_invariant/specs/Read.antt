-- A transfer of a read starts or ends.
use Rattle.std.specs.Prelude.{◌≡◌, ◌⊎◌, ℕ, List, Option, Some, IsTrue, IsFalse}
use Rattle.lvm_num.specs.declared.place.Pp.{Pp}
use Rattle.lvm_invariant.specs.Found.{Votes}
use Rattle.lvm_invariant.specs.Updates.{staged, with_req}
use Rattle.lvm_invariant.specs.State.{Stage, Going, Queued, ModelState, covers, is_past}
use Rattle.lvm_invariant.specs.Good.{Good}

-- What the read gets is what the copy holds.
pub record ReadsFromCopy (s : ModelState) (i : ℕ) (r : Queued) (c : Pp) (got : Option (ℕ → List ℕ)) : Type 0 where
  pub there : s.queue i ≡ Some r
  pub read : IsFalse r.write
  pub past : IsTrue (is_past r.phase)
  pub was : (x : Stage) × (r.targets c ≡ Some x)
  pub gets : (value : ℕ → List ℕ) → got ≡ Some value → (r.got ≡ Some value) ⊎ ((lv b : ℕ) → IsTrue (covers r lv b) → value b ≡ s.media.block lv b c)

abbrev pub reading : Queued → Pp → Stage → Option (ℕ → List ℕ) → Queued
reading r c stage got = record r { phase = Going; targets = staged r.targets c stage; got = got }

abbrev pub ReadKeeps : Type 0
ReadKeeps = (votes : Votes) (s : ModelState) (i : ℕ) (r : Queued) (c : Pp) (stage : Stage) (got : Option (ℕ → List ℕ))
    → ReadsFromCopy s i r c got → Good votes s → Good votes (with_req s i (reading r c stage got))
