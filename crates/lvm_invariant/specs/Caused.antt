-- What is missing, stale or failed in a session has its cause.
use Rattle.std.specs.Prelude.{◌≡◌, ◌⊎◌, ℕ, ◌≤◌, List, ◌++◌, Some, IsTrue}
use Rattle.std.specs.List.{AllByRecursion}
use Rattle.lvm_num.specs.declared.place.Pp.{Pp}
use Rattle.lvm_num.specs.Record.{Stamped}
use Rattle.lvm_disk.specs.Counts.{Rose}
use Rattle.lvm_vol.specs.declared.entry.Vol.TheVariants.{Lv}
use Rattle.lvm_vol.specs.declared.entry.Outcome.{Outcome}
use Rattle.lvm_vol.specs.declared.entry.Outcome.TheVariants as outcome
use Rattle.lvm_vol.specs.Facts.{Request, Fact, Landed, is_over}
use Rattle.lvm_invariant.specs.State.{Marks, Badly, Queued, ModelCopy, ModelState}
use Rattle.lvm_invariant.specs.Faults.{Faults, FaultsRose, SomeFailed, NoneFailed, IsStaleForCause}

-- each copy of what the request goes over was stale, or on a missing disk, when the session began
abbrev pub HadNoCopy : Faults → ModelState → Request → Type 0
HadNoCopy w s q = (lv b : ℕ) (c : Pp) → IsTrue (is_over q (Lv lv) b) → IsTrue (s.is_copy lv b c) → IsTrue (w.stale c) ⊎ IsTrue (w.missing c.disk)

-- A request lands as Lost or ReadFailed only where a disk has failed, as Off not where none has, and as NoFresh only there or where it had no
-- usable copy from the beginning.
abbrev pub LandingIsCaused : Faults → ModelState → Request → Outcome → Type 0
LandingIsCaused w s q outcome.Lost = SomeFailed w
LandingIsCaused w s q outcome.ReadFailed = SomeFailed w
LandingIsCaused w s q outcome.Off = NoneFailed w → ⊥
LandingIsCaused w s q outcome.NoFresh = NoneFailed w → HadNoCopy w s q
LandingIsCaused w s q outcome.Done = Unit {0}
LandingIsCaused w s q outcome.Got = Unit {0}
LandingIsCaused w s q outcome.Dark = Unit {0}

abbrev pub FactIsCaused : Faults → ModelState → Fact → Type 0
FactIsCaused w s (Landed q how started got) = LandingIsCaused w s q how
FactIsCaused w s _ = Unit {0}

-- what the history tells since the session began has its causes
pub record Since (w : Faults) (s : ModelState) (facts : List Fact) : Type 0 where
  pub since : List Fact
  pub is : facts ≡ w.past ++ since
  pub caused : AllByRecursion (FactIsCaused w s) since

-- Nothing is missing, stale or failed but from the beginning of the session, or by a fault since.
pub record Caused (w : Faults) (s : ModelState) : Type 0 where
  -- each count was taken after the session began
  pub asked_since : (i d : ℕ) → w.began d ≤ w.asked i d
  pub asked_before : (i d : ℕ) → w.asked i d ≤ w.now d
  -- a missing disk was missing when the session began, or has failed since
  pub missing : (d : ℕ) → IsTrue (s.missing d) → IsTrue (w.missing d) ⊎ FaultsRose w d
  pub still_missing : (d : ℕ) → IsTrue (w.missing d) → IsTrue (s.missing d)
  -- a copy that is stale by what is committed, in flight or wanted, or is being brought up, has its cause
  pub committed : (c : Pp) → IsTrue (s.committed.value.stale c) → IsStaleForCause w c
  pub in_flight : (c : Pp) (u : Stamped Marks) → s.in_flight ≡ Some u → IsTrue (u.value.stale c) → IsStaleForCause w c
  pub wanted : (c : Pp) → IsTrue (s.wanted.stale c) → IsStaleForCause w c
  pub brought_up : (o : ModelCopy) → s.open_copy ≡ Some o → IsStaleForCause w o.target
  -- a transfer that failed is on a disk that has failed since its request or step entered the queue
  pub failed : (i : ℕ) (r : Queued) (c : Pp) → s.queue i ≡ Some r → r.targets c ≡ Some Badly → Rose (w.asked i c.disk) (w.now c.disk)
  pub landed : Since w s s.facts
