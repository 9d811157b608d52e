-- What causes are judged by: counts of faults, and how a session began.
use Rattle.std.specs.Prelude.{◌⊎◌, ℕ, Bool, List, IsTrue}
use Rattle.lvm_num.specs.declared.place.Pp.{Pp}
use Rattle.lvm_disk.specs.Counts.{Rose}
use Rattle.lvm_vol.specs.Facts.{Fact}

pub record Faults : Type 0 where
  -- each disk's count of faults: now, when the session began, and when the request or step at a place of the queue entered it
  pub now : ℕ → ℕ
  pub began : ℕ → ℕ
  pub asked : ℕ → ℕ → ℕ
  -- the disks that were missing and the copies that were stale when the session began, and the history then
  pub missing : ℕ → Bool
  pub stale : Pp → Bool
  pub past : List Fact

-- the faults of the disk rose since the session began
abbrev pub FaultsRose : Faults → ℕ → Type 0
FaultsRose w d = Rose (w.began d) (w.now d)

-- some disk's did, or none's
abbrev pub SomeFailed : Faults → Type 0
SomeFailed w = (d : ℕ) × FaultsRose w d

abbrev pub NoneFailed : Faults → Type 0
NoneFailed w = (d : ℕ) → FaultsRose w d → ⊥

-- why a copy is stale: it was when the session began, or its disk was missing then, or has failed since
abbrev pub IsStaleForCause : Faults → Pp → Type 0
IsStaleForCause w c = IsTrue (w.stale c) ⊎ IsTrue (w.missing c.disk) ⊎ FaultsRose w c.disk
