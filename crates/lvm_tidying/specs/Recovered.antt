-- A group that is recovered, with its volumes in mode passive.
use Rattle.std.specs.Prelude.{◌≡◌, ◌⊎◌, ℕ, true, List, Some, IsTrue, IsFalse}
use Rattle.std.specs.List.{AllByRecursion}
use Rattle.lvm_num.specs.declared.descriptor.Descriptor.{Descriptor}
use Rattle.lvm_num.specs.declared.status.Status.{Status}
use Rattle.lvm_num.specs.Disks.{Disks}
use Rattle.lvm_num.specs.Descriptor.{IsValid}
use Rattle.lvm_num.specs.Record.{Stamped, stamp_lt}
use Rattle.lvm_num.specs.Votes.{CanWrite}
use Rattle.lvm_vol.specs.Facts.{Fact}
use Rattle.lvm_disk.specs.Device.{Range}
use Rattle.lvm_kept.specs.Contents.{Contents}
use Rattle.lvm_kept.specs.Group.{is_voter, is_named}
use Rattle.lvm_kept.specs.Committed.{IsWithinDisks}
use Rattle.lvm_kept.specs.Kept.{Kept}
use Rattle.lvm_kept.specs.Recovered.{IsRecordRange, IsCopyRange, Recovered}
use Rattle.lvm_kept.specs.Torn.{StatusesChange}
use Rattle.lvm_commit.specs.Committed.{ShowsCommitted}
use Rattle.lvm_commit.specs.Laws.{IsLaterStatus}
use Rattle.lvm_write.specs.Restated.{Restated}
use Rattle.lvm_recover.specs.Recopied.{IsRecopied, AreEqualled, OnlyNotesOf}
use Rattle.lvm_tidying.specs.Cleaned.{IsCleaned}

-- The further status was written to all voters, under a stamp of its own,
pub record IsWrittenTo (there : Disks) (group : Descriptor) (clean : Stamped Status) (old new : Contents) : Type 0 where
  pub changes : StatusesChange there clean old new
  pub stands : (d : ℕ) → IsTrue (there d) → new.status d ≡ Some clean
  pub later : IsLaterStatus old group clean

-- or the one that stands has just the marks that are needed, and none was.
abbrev pub WasCleaned : Disks → Descriptor → Stamped Status → Stamped Status → Contents → Contents → Type 0
WasCleaned there group stands clean old new = ((clean ≡ stands) × (new ≡ old)) ⊎ IsWrittenTo there group clean old new

-- What a varyon has done of a group: its records are restated, with the data and the notes as they were; then the named track groups and the dirty volumes are
-- copied; then the marks go that aren't needed; then the notes are emptied.
pub record RecoversAll (old begun copied cleaned new : Contents) (clean : Stamped Status) (ranges : List Range) (disks : Disks) (group : Descriptor) : Type 0 where
  pub valid : IsValid group
  pub within : IsWithinDisks begun
  pub restated : Restated old begun disks group
  pub same_data : begun.block ≡ old.block
  pub same_voters : (d : ℕ) → is_voter begun disks group.id d ≡ is_voter old disks group.id d
  pub same_notes : (d lv track_group : ℕ) → IsTrue (is_voter old disks group.id d) → is_named begun d lv track_group ≡ is_named old d lv track_group
  pub enough : CanWrite group (is_voter old disks group.id)
  -- all voters show this status, and no disk a later one
  pub stated : (d : ℕ) → IsTrue (is_voter old disks group.id d) → begun.status d ≡ Some restated.status
  pub last : (d : ℕ) (r : Stamped Status) → begun.status d ≡ Some r → r.value.id ≡ group.id → (stamp_lt r.stamp restated.status.stamp ≡ true) ⊎ (r ≡ restated.status)
  -- where they kept a history, they show it as the committed one
  pub shows : (facts : List Fact) → Kept begun facts → (is : ShowsCommitted begun group restated.status.value (is_voter old disks group.id)) × (is.stands ≡ restated.status)
  pub copied_so : IsRecopied begun group (Some restated.status) (is_voter old disks group.id) copied
  pub equalled : AreEqualled begun group (Some restated.status) (is_voter old disks group.id) copied
  pub cleaned_so : IsCleaned group (is_voter old disks group.id) restated.status clean.value
  pub cleaned_is : WasCleaned (is_voter old disks group.id) group restated.status clean copied cleaned
  pub emptied : OnlyNotesOf (is_voter old disks group.id) cleaned new
  pub empty : (d lv track_group : ℕ) → IsTrue (is_voter old disks group.id d) → IsFalse (is_named new d lv track_group)
  pub ranges_are : AllByRecursion (λ r. IsTrue (is_voter old disks group.id r.disk) × (IsRecordRange r ⊎ IsCopyRange old disks group.id group r)) ranges
  -- the writes of the records keep what was kept
  pub keeps : (facts : List Fact) → Kept old facts → Kept begun facts

-- Then it is recovered, whatever the modes of its volumes.
abbrev pub RecoveredByCleaning : Type 0
RecoveredByCleaning = (old begun copied cleaned new : Contents) (clean : Stamped Status) (ranges : List Range) (disks : Disks) (group : Descriptor)
    → RecoversAll old begun copied cleaned new clean ranges disks group → Recovered old ranges new disks group.id group
