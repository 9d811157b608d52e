-- The status with which a group goes on once its dirty volumes are equal.
use Rattle.std.specs.Prelude.{◌≡◌, ◌↔◌, ℕ, ◌<◌, [], Some, IsTrue}
use Rattle.lvm_num.specs.declared.descriptor.Mode.TheVariants.{Passive}
use Rattle.lvm_num.specs.declared.descriptor.LvRow.{LvRow}
use Rattle.lvm_num.specs.declared.descriptor.Descriptor.{Descriptor}
use Rattle.lvm_num.specs.declared.status.Status.{Status}
use Rattle.lvm_num.specs.Disks.{Disks}
use Rattle.lvm_num.specs.Record.{Stamped}
use Rattle.lvm_num.specs.Status.{calls_dirty}
use Rattle.lvm_kept.specs.Contents.{Contents}
use Rattle.lvm_kept.specs.Group.{fresh_on, IsOneOf}
use Rattle.lvm_kept.specs.Torn.{StatusesChange}
use Rattle.lvm_commit.specs.Committed.{MayMark, ShowsCommitted}
use Rattle.lvm_commit.specs.Laws.{IsLaterStatus}
use Rattle.lvm_even.specs.Even.{IsEven, MissingAreStale}
use Rattle.lvm_even.specs.Commands.{MayClean}

-- a volume in mode passive that is dirty and has a logical partition without a usable copy
pub record IsStillDirty (group : Descriptor) (there : Disks) (stands : Stamped Status) (lv : ℕ) : Type 0 where
  pub row : LvRow
  pub lp : ℕ
  pub volume : IsOneOf group.lvs row
  pub number : row.number ≡ lv
  pub mode : row.mode ≡ Passive
  pub dirty : IsTrue (calls_dirty stands.value lv)
  pub inside : lp < row.lps
  pub none : fresh_on there (Some stands) row lp ≡ []

-- Just those stay dirty, and nothing else changes.
pub record IsCleaned (group : Descriptor) (there : Disks) (stands : Stamped Status) (clean : Status) : Type 0 where
  pub rest : clean ≡ record stands.value { dirty = clean.dirty }
  pub dirty : (lv : ℕ) → IsTrue (calls_dirty clean lv) ↔ IsStillDirty group there stands lv

-- ---- laws

-- Where the usable copies are even and none is left behind, what may be cleaned may be marked so.
abbrev pub CleaningIsMarking : Type 0
CleaningIsMarking = (c : Contents) (group : Descriptor) (status : Status) (there : Disks) (shows : ShowsCommitted c group status there) (next : Status)
    → MayClean group shows.stands there next → IsEven c group (Some shows.stands) there → MissingAreStale c group (Some shows.stands) there → MayMark c group status next

-- That it may be marked so lasts while statuses alone are written.
abbrev pub MarkingStays : Type 0
MarkingStays = (group : Descriptor) (was next : Status) (old new : Contents) → new ≡ record old { status = new.status } → MayMark old group was next → MayMark new group was next

-- The marks may go that aren't needed.
abbrev pub CleanedMayClean : Type 0
CleanedMayClean = (group : Descriptor) (there : Disks) (stands : Stamped Status) (clean : Status) → IsCleaned group there stands clean → MayClean group stands there clean

-- Once all members that are there show that status, it is the committed one.
abbrev pub CleanedShows : Type 0
CleanedShows = (group : Descriptor) (status : Status) (there : Disks) (clean : Stamped Status) (old new : Contents)
    → ShowsCommitted old group status there → clean.value.id ≡ group.id → IsLaterStatus old group clean → StatusesChange there clean old new
    → ((d : ℕ) → IsTrue (there d) → new.status d ≡ Some clean) → (shows : ShowsCommitted new group clean.value there) × (shows.stands ≡ clean)
