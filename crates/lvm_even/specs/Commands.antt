-- What group commands leave at rest.
use Rattle.std.specs.Prelude.{◌≡◌, ◌⊎◌, ℕ, ◌<◌, List, [], Option, Some, IsTrue, IsFalse}
use Rattle.lvm_num.specs.declared.place.Pp.{Pp}
use Rattle.lvm_num.specs.declared.descriptor.Mode.TheVariants.{Passive, Off}
use Rattle.lvm_num.specs.declared.descriptor.LvRow.{LvRow}
use Rattle.lvm_num.specs.declared.descriptor.Descriptor.{Descriptor}
use Rattle.lvm_num.specs.declared.status.Status.{Status}
use Rattle.lvm_num.specs.Disks.{Disks}
use Rattle.lvm_num.specs.Descriptor.{copies_of}
use Rattle.lvm_num.specs.Record.{Stamped}
use Rattle.lvm_num.specs.Status.{calls_stale, calls_dirty}
use Rattle.lvm_num.specs.Votes.{CanWrite}
use Rattle.lvm_vol.specs.Facts.{Fact}
use Rattle.lvm_kept.specs.Contents.{Contents}
use Rattle.lvm_kept.specs.Group.{is_stale_by, fresh_on, block_at, IsBlockOf, IsOneOf, IsSome, HoldOne}
use Rattle.lvm_kept.specs.Committed.{IsWithinDisks}
use Rattle.lvm_kept.specs.Kept.{Kept}
use Rattle.lvm_kept.specs.Torn.{StatusesChange}
use Rattle.lvm_commit.specs.passed.Steps.{VolumeIsServed}
use Rattle.lvm_commit.specs.Committed.{ShowsCommitted}
use Rattle.lvm_commit.specs.Laws.{IsLaterStatus}
use Rattle.lvm_even.specs.Members.{members_showing}
use Rattle.lvm_commit.specs.LawsOfData.{IsFree, IsSectorOf}
use Rattle.lvm_even.specs.Even.{IsEven, MissingAreStale}

-- the copy is on one of these disks, and the status calls it fresh
pub record IsUsable (status : Option (Stamped Status)) (there : Disks) (p : Pp) : Type 0 where
  pub in_there : IsTrue (there p.disk)
  pub fresh : IsFalse (is_stale_by status p)

-- ---- even

-- A volume of which each usable copy was one of the same logical partition of a volume of the group before, of which the data is as it was.
pub record KeepsCopies (old new : Contents) (group : Descriptor) (was is : Option (Stamped Status)) (before after : Disks) (row : LvRow) : Type 0 where
  pub from : LvRow
  pub volume : IsOneOf group.lvs from
  pub mode : from.mode ≡ row.mode
  pub lps : row.lps ≡ from.lps
  pub copies : (lp : ℕ) (p : Pp) → IsOneOf (copies_of row lp) p → IsUsable is after p → IsOneOf (copies_of from lp) p × IsUsable was before p
  pub held : (lp b : ℕ) (p : Pp) → IsBlockOf group.mib row lp b → IsOneOf (copies_of row lp) p → IsUsable is after p → block_at new group.mib p b ≡ block_at old group.mib p b

-- or of which each logical partition's usable copies hold one value, as zeros
abbrev pub IsUniform : Contents → ℕ → Option (Stamped Status) → Disks → LvRow → Type 0
IsUniform c mib status there row = (lp b : ℕ) → IsBlockOf mib row lp b → HoldOne c mib (fresh_on there status row lp) b

-- So usable copies stay even where the next descriptor has only such volumes, be there fewer members, fewer copies or fewer fresh ones.
abbrev pub EvenStays : Type 0
EvenStays = (old new : Contents) (group next : Descriptor) (was is : Option (Stamped Status)) (before after : Disks)
    → next.mib ≡ group.mib → ((row : LvRow) → IsOneOf next.lvs row → (row.mode ≡ Off → ⊥) → KeepsCopies old new group was is before after row ⊎ IsUniform new group.mib is after row)
    → IsEven old group was before → IsEven new next is after

-- In particular where data has changed in free partitions alone.
abbrev pub FreeKeepsEven : Type 0
FreeKeepsEven = (old new : Contents) (group : Descriptor) (was is : Option (Stamped Status)) (before after : Disks)
    → ((row : LvRow) (lp : ℕ) (p : Pp) → IsOneOf group.lvs row → IsOneOf (copies_of row lp) p → IsUsable is after p → IsUsable was before p)
    → ((d s : ℕ) → (new.block d s ≡ old.block d s) ⊎ ((pp : Pp) × IsFree group pp × IsSectorOf group.mib pp d s))
    → IsEven old group was before → IsEven new group is after

-- ---- none behind

-- None is left behind where no mark on a copy goes, and each fresh copy of a member that becomes missing has no other usable one.
abbrev pub BehindStays : Type 0
BehindStays = (old new : Contents) (group : Descriptor) (was is : Option (Stamped Status)) (before after : Disks)
    → ((d : ℕ) → members_showing new group d ≡ members_showing old group d) → ((d : ℕ) → IsTrue (after d) → IsTrue (before d))
    → ((row : LvRow) (lp : ℕ) (p : Pp) → IsOneOf group.lvs row → IsOneOf (copies_of row lp) p → IsFalse (is_stale_by is p) → IsFalse (is_stale_by was p))
    → ((row : LvRow) (lp : ℕ) (p : Pp) → IsOneOf group.lvs row → lp < row.lps → IsOneOf (copies_of row lp) p → IsTrue (before p.disk) → IsFalse (after p.disk) → IsFalse (is_stale_by is p) → fresh_on after is row lp ≡ [])
    → MissingAreStale old group was before → MissingAreStale new group is after

-- ---- a descriptor in which a volume has other copies

-- The row has copies of a volume of the group, and others that are stale; each logical partition keeps a fresh one on a member that shows the group (it may
-- be missing).
pub record HasCopiesOf (c : Contents) (group : Descriptor) (status : Status) (row : LvRow) : Type 0 where
  pub from : LvRow
  pub volume : IsOneOf group.lvs from
  pub number : row.number ≡ from.number
  pub mode : row.mode ≡ from.mode
  pub lps : row.lps ≡ from.lps
  pub copies : (lp : ℕ) (p : Pp) → IsOneOf (copies_of row lp) p → IsFalse (calls_stale status p) → IsOneOf (copies_of from lp) p
  pub some : (lp : ℕ) → lp < row.lps → (p : Pp) × IsOneOf (copies_of row lp) p × IsFalse (calls_stale status p) × IsTrue (members_showing c group p.disk)

-- So its blocks are served, and the descriptor with it may be committed.
abbrev pub CopiesServe : Type 0
CopiesServe = (c : Contents) (group : Descriptor) (status : Status) (there : Disks) (facts : List Fact) (row : LvRow)
    → IsWithinDisks c → CanWrite group there → ShowsCommitted c group status there → HasCopiesOf c group status row → Kept c facts → VolumeIsServed c facts group row

-- ---- a status with fewer dirty marks

-- The next status calls the same copies stale, and a volume in mode passive dirty no more only where each of its logical partitions has a usable copy.
pub record MayClean (group : Descriptor) (stands : Stamped Status) (there : Disks) (next : Status) : Type 0 where
  pub stale : (row : LvRow) (lp : ℕ) (p : Pp) → IsOneOf group.lvs row → IsOneOf (copies_of row lp) p → calls_stale next p ≡ calls_stale stands.value p
  pub dirty : (row : LvRow) → IsOneOf group.lvs row → row.mode ≡ Passive → IsTrue (calls_dirty stands.value row.number)
      → IsTrue (calls_dirty next row.number) ⊎ ((lp : ℕ) → lp < row.lps → IsSome (fresh_on there (Some stands) row lp))

-- Then it may be written where the usable copies are even, as after a recovery.
abbrev pub CleaningFollows : Type 0
CleaningFollows = (group : Descriptor) (status : Status) (there targets : Disks) (next : Stamped Status) (old new : Contents) (facts : List Fact)
    → IsWithinDisks old → CanWrite group there → (shows : ShowsCommitted old group status there) → ((d : ℕ) → IsTrue (targets d) → IsTrue (there d))
    → next.value.id ≡ group.id → MayClean group shows.stands there next.value → IsEven old group (Some shows.stands) there → MissingAreStale old group (Some shows.stands) there
    → IsLaterStatus old group next → StatusesChange targets next old new → Kept old facts → Kept new facts
