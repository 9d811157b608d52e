-- A volume of which some copies become a volume of their own.
use Rattle.std.specs.Prelude.{◌≡◌, ◌⊎◌, ℕ, ◌<◌, ◌==◌, ◌||◌, List, [], ◌∷◌, ◌++◌, Option, Some, IsTrue, IsFalse}
use Rattle.lvm_num.specs.declared.place.Pp.{Pp}
use Rattle.lvm_num.specs.declared.descriptor.LvRow.{LvRow}
use Rattle.lvm_num.specs.declared.descriptor.Descriptor.{Descriptor}
use Rattle.lvm_num.specs.declared.status.Status.{Status}
use Rattle.lvm_num.specs.Disks.{Disks}
use Rattle.lvm_num.specs.Descriptor.{copies_of, volume_of}
use Rattle.lvm_num.specs.Record.{Stamped}
use Rattle.lvm_num.specs.Status.{calls_stale}
use Rattle.lvm_num.specs.Votes.{CanWrite}
use Rattle.lvm_vol.specs.declared.entry.Vol.TheVariants.{Lv}
use Rattle.lvm_vol.specs.Facts.{Fact, Split}
use Rattle.lvm_vol.specs.May.{known}
use Rattle.lvm_kept.specs.Contents.{Contents}
use Rattle.lvm_kept.specs.Group.{IsOneOf}
use Rattle.lvm_kept.specs.Committed.{IsWithinDisks}
use Rattle.lvm_kept.specs.Kept.{Kept}
use Rattle.lvm_steps.specs.Committing.{VolumeIsServed}
use Rattle.lvm_commit.specs.Committed.{ShowsCommitted}
use Rattle.lvm_commit.specs.LawsOfVolumes.{VolumesServe}
use Rattle.lvm_even.specs.Even.{IsEven}

-- ---- what is split

-- The row has some of the copies of the volume, and all else that it has but its number and its name.
pub record HasPartOf (from row : LvRow) : Type 0 where
  pub mode : row.mode ≡ from.mode
  pub lps : row.lps ≡ from.lps
  pub copies : (lp : ℕ) (p : Pp) → IsOneOf (copies_of row lp) p → IsOneOf (copies_of from lp) p

-- The volume keeps some copies, of each logical partition a fresh one, and the others, each of which is usable, become another volume.
pub record MaySplit (group : Descriptor) (status : Status) (there : Disks) (from stays new : LvRow) : Type 0 where
  pub volume : IsOneOf group.lvs from
  pub stays_part : HasPartOf from stays
  pub new_part : HasPartOf from new
  pub number : stays.number ≡ from.number
  pub apart : from.number ≡ new.number → ⊥
  pub usable : (lp : ℕ) (p : Pp) → IsOneOf (copies_of new lp) p → IsTrue (there p.disk) × IsFalse (calls_stale status p)
  pub some : (lp : ℕ) → lp < new.lps → (p : Pp) × IsOneOf (copies_of new lp) p
  pub fresh : (lp : ℕ) → lp < stays.lps → (p : Pp) × IsOneOf (copies_of stays lp) p × IsFalse (calls_stale status p)

-- a copy on a disk that isn't there, of whose logical partition another copy is usable, is stale
abbrev pub NoneStaysFresh : Descriptor → Status → Disks → Type 0
NoneStaysFresh group status there = (row : LvRow) (lp : ℕ) (p q : Pp) → IsOneOf group.lvs row → lp < row.lps → IsOneOf (copies_of row lp) p → IsFalse (there p.disk)
    → IsOneOf (copies_of row lp) q → IsTrue (there q.disk) → IsFalse (calls_stale status q) → IsTrue (calls_stale status p)

-- no write of the volume is open
abbrev pub IsClosed : List Fact → LvRow → Type 0
IsClosed facts from = (b : ℕ) → (known facts (Lv from.number) b).open_writes ≡ []

-- the history with the split
abbrev pub split_in : List Fact → LvRow → LvRow → List Fact
split_in facts from new = facts ++ Split from.number new.number ∷ []

-- What holds of a session at rest at which the volume may be split, and of the history.
pub record IsAtSplit (c : Contents) (group : Descriptor) (status : Status) (there : Disks) (facts : List Fact) (from stays new : LvRow) : Type 0 where
  pub within : IsWithinDisks c
  pub enough : CanWrite group there
  pub shows : ShowsCommitted c group status there
  pub even : IsEven c group (Some shows.stands) there
  pub left : NoneStaysFresh group status there
  pub may : MaySplit group status there from stays new
  pub closed : IsClosed facts from
  pub before : Kept c facts
  -- by the entry (law `split_is_entered`)
  pub kept : Kept c (split_in facts from new)

-- Then the blocks of both are served.
abbrev pub SplitServes : Type 0
SplitServes = (c : Contents) (group : Descriptor) (status : Status) (there : Disks) (facts : List Fact) (from stays new : LvRow) → IsAtSplit c group status there facts from stays new
    → VolumeIsServed c (split_in facts from new) group stays × VolumeIsServed c (split_in facts from new) group new

-- ---- the descriptor

-- The volume has the one row for the other, and there is one volume more.
pub record IsSplitInto (group next : Descriptor) (from stays new : LvRow) : Type 0 where
  pub alone : next ≡ record group { lvs = next.lvs }
  pub was : volume_of group from.number ≡ Some from
  pub is : volume_of next from.number ≡ Some stays
  pub more : volume_of next new.number ≡ Some new
  pub rows : (row : LvRow) → IsOneOf next.lvs row → (IsOneOf group.lvs row × ((row.number ≡ from.number → ⊥) × (row.number ≡ new.number → ⊥))) ⊎ (row ≡ stays) ⊎ (row ≡ new)
  pub volumes : (n : ℕ) → (n ≡ from.number → ⊥) → (n ≡ new.number → ⊥) → volume_of next n ≡ volume_of group n

-- So the descriptor with both may be committed: it differs by these two alone, each may be named by the history, and their blocks are served.
abbrev pub SplitMayBeCommitted : Type 0
SplitMayBeCommitted = (c : Contents) (group next : Descriptor) (status : Status) (there : Disks) (facts : List Fact) (from stays new : LvRow)
    → IsAtSplit c group status there facts from stays new → IsSplitInto group next from stays new
    → VolumesServe c (split_in facts from new) group (λ n. (n == from.number) || (n == new.number)) next

-- ---- what is left

-- Usable copies stay even,
abbrev pub SplitStaysEven : Type 0
SplitStaysEven = (c : Contents) (group next : Descriptor) (status : Option (Stamped Status)) (there : Disks) (from stays new : LvRow)
    → IsOneOf group.lvs from → HasPartOf from stays → HasPartOf from new → IsSplitInto group next from stays new → IsEven c group status there → IsEven c next status there

-- and none is left behind that wasn't.
abbrev pub SplitLeavesNone : Type 0
SplitLeavesNone = (group next : Descriptor) (status : Status) (there : Disks) (from stays new : LvRow)
    → MaySplit group status there from stays new → IsSplitInto group next from stays new → NoneStaysFresh group status there → NoneStaysFresh next status there
