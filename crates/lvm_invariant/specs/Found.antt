-- Which status each quorum finds.
use Rattle.std.specs.Prelude.{◌≡◌, ◌⊎◌, ℕ, Bool, true, false, Some, IsTrue}
use Rattle.lvm_num.specs.Record.{Stamped, stamp_lt}
use Rattle.lvm_invariant.specs.State.{Marks, View, ModelState}
use Rattle.lvm_invariant.specs.Crash.{IsCrash, IsPossible}

-- Sets of members: those with votes enough to read, and those with votes enough to write. Each of the ones meets each of the others.
pub record Votes : Type 0 where
  pub reads : (ℕ → Bool) → Bool
  pub writes : (ℕ → Bool) → Bool
  pub meet : (a b : ℕ → Bool) → IsTrue (reads a) → IsTrue (writes b) → (d : ℕ) × IsTrue (a d) × IsTrue (b d)

-- the disk has the committed status or the one in flight
abbrev pub HasIt : ModelState → ℕ → Type 0
HasIt s d = (s.media.status d ≡ Some s.committed) ⊎ ((u : Stamped Marks) × (s.in_flight ≡ Some u) × (s.media.status d ≡ Some u))

pub record Found (votes : Votes) (s : ModelState) : Type 0 where
  pub set : ℕ → Bool
  pub enough : IsTrue (votes.writes set)
  pub have : (d : ℕ) → IsTrue (set d) → HasIt s d
  pub only : (d : ℕ) (r : Stamped Marks) → s.media.status d ≡ Some r → (stamp_lt r.stamp s.committed.stamp ≡ true) ⊎ (r ≡ s.committed) ⊎ (s.in_flight ≡ Some r)
  pub newer : (u : Stamped Marks) → s.in_flight ≡ Some u → (stamp_lt s.committed.stamp u.stamp ≡ true) ⊎ (u ≡ s.committed)

-- the status that the disks of the set show and none of them a newer one
pub record IsNewest (v : View) (set : ℕ → Bool) (r : Stamped Marks) : Type 0 where
  pub disk : ℕ
  pub inside : IsTrue (set disk)
  pub shown : v.status disk ≡ Some r
  pub last : (d : ℕ) (other : Stamped Marks) → IsTrue (set d) → v.status d ≡ Some other → stamp_lt r.stamp other.stamp ≡ false

abbrev pub QuorumFinds : Type 0
QuorumFinds = (votes : Votes) (s : ModelState) → Found votes s → (v : View) → IsCrash s v → (set : ℕ → Bool) → IsTrue (votes.reads set) → (r : Stamped Marks) → IsNewest v set r → IsPossible s r.value
