-- How each call changes the status of a session.
use Rattle.std.specs.Prelude.{◌≡◌, ℕ, ◌+◌, ◌<◌, Bool, true, false, ◌&&◌, ◌||◌, ◌==◌, not, if◌then◌else◌, IsTrue, [], Option, Some, None, unwrap_or}
use Rattle.lvm_status.specs.passed.Num.{Pp, Descriptor, Status, Disks, calls_stale, calls_missing, calls_dirty, is_pp, IsVolumeNumber}
use Rattle.lvm_status.specs.Table.{has_row, SameMembers, SameStale, SameMissing}
use Rattle.lvm_status.specs.declared.change.Change.{Change}
use Rattle.lvm_status.specs.declared.change.Change.TheVariants as change
use Rattle.lvm_status.specs.Update.{Updates, no_disks, with_disk, without_disk, members_there, is_held, is_owed}

-- ---- the beginning

-- at first what a table says is committed and wanted, nothing is in flight, and no stamp was used
abbrev pub first_updates : Status → Descriptor → Updates
first_updates table d = record {
  group = record d { lvs = [] };
  committed = table;
  wanted = table;
  in_flight = None;
  unstarted = no_disks;
  started = no_disks;
  written = no_disks;
  failed = no_disks;
  stamp = record { epoch = 0; seq = 0 };
}

-- ---- changes of the wanted status

-- the partition becomes stale, and nothing else changes
pub record BecomesStale (pp : Pp) (old new : Status) : Type 0 where
  pub members : SameMembers old new
  pub stale : (p : Pp) → calls_stale new p ≡ (calls_stale old p || is_pp p pp)
  pub missing : SameMissing old new
  pub dirty : new.dirty ≡ old.dirty

pub record BecomesFresh (pp : Pp) (old new : Status) : Type 0 where
  pub members : SameMembers old new
  pub stale : (p : Pp) → calls_stale new p ≡ (calls_stale old p && not (is_pp p pp))
  pub missing : SameMissing old new
  pub dirty : new.dirty ≡ old.dirty

-- the disk becomes missing, and nothing else changes; nothing at all where it is
pub record BecomesMissing (disk : ℕ) (old new : Status) : Type 0 where
  pub members : SameMembers old new
  pub stale : SameStale old new
  pub missing : (d : ℕ) → calls_missing new d ≡ (if d == disk then true else calls_missing old d)
  pub dirty : new.dirty ≡ old.dirty
  pub same : calls_missing old disk ≡ true → new ≡ old

-- the volume is dirty or isn't, and nothing else changes
pub record BecomesDirty (lv : ℕ) (is : Bool) (old new : Status) : Type 0 where
  pub members : SameMembers old new
  pub stale : SameStale old new
  pub missing : SameMissing old new
  pub dirty : (number : ℕ) → calls_dirty new number ≡ (if number == lv then is else calls_dirty old number)

-- what a change makes of a status
abbrev pub Changes : Change → Status → Status → Type 0
Changes (change.Stale pp) old new = BecomesStale pp old new
Changes (change.Fresh pp) old new = BecomesFresh pp old new
Changes (change.Missing disk) old new = BecomesMissing disk old new
Changes (change.Dirty lv) old new = BecomesDirty lv true old new
Changes (change.Clean lv) old new = BecomesDirty lv false old new

-- a partition of a disk with a row
pub record IsMarkable (s : Status) (pp : Pp) : Type 0 where
  pub row : IsTrue (has_row s pp.disk)
  pub partition : pp.pp < 1016

-- a status in which this change may be made
abbrev pub MayChange : Change → Status → Type 0
MayChange (change.Stale pp) s = IsMarkable s pp
MayChange (change.Fresh pp) s = IsMarkable s pp
MayChange (change.Missing disk) s = IsTrue (has_row s disk)
MayChange (change.Dirty lv) s = IsVolumeNumber lv
MayChange (change.Clean lv) s = IsVolumeNumber lv

-- ---- the update in flight

-- An update ends once it is committed and none of its writes is to be started or to end. One that isn't committed
-- stays in flight.
abbrev pub closed : Updates → Updates
closed u = if is_held u && not (is_owed u) then record u { in_flight = None; unstarted = no_disks; started = no_disks; written = no_disks; failed = no_disks } else u

-- a write that isn't started isn't made once its disk is missing
abbrev pub given_up : Change → Disks → Disks
given_up (change.Missing disk) unstarted = without_disk unstarted disk
given_up _ unstarted = unstarted

-- something is wanted
abbrev pub with_wanted : Updates → Change → Status → Updates
with_wanted u change wanted = closed (record u { wanted = wanted; unstarted = given_up change u.unstarted })

-- what is wanted goes out to the members that aren't missing, under the next stamp
abbrev pub with_update : Updates → Updates
with_update u = record u {
  in_flight = Some u.wanted;
  unstarted = members_there u.group u.wanted;
  started = no_disks;
  written = no_disks;
  failed = no_disks;
  stamp = record u.stamp { seq = u.stamp.seq + 1 };
}

-- the write to the disk, if it is one, starts
abbrev pub with_start : Updates → Option ℕ → Updates
with_start u None = u
with_start u (Some disk) = record u { unstarted = without_disk u.unstarted disk; started = with_disk u.started disk }

-- the write to the disk ends well, or badly
abbrev pub with_end : Updates → ℕ → Bool → Status → Updates
with_end u disk true wanted = record u { wanted = wanted; started = without_disk u.started disk; written = with_disk u.written disk }
with_end u disk false wanted = record u { wanted = wanted; started = without_disk u.started disk; failed = with_disk u.failed disk }

-- a disk whose write ends badly becomes wanted missing
abbrev pub WantsAtEnd : ℕ → Bool → Status → Status → Type 0
WantsAtEnd disk true old new = new ≡ old
WantsAtEnd disk false old new = BecomesMissing disk old new

-- what is in flight is committed
abbrev pub with_commit : Updates → Updates
with_commit u = record u { committed = unwrap_or u.in_flight u.committed }

-- the votes of the disks that have the update become enough
abbrev pub comes_held : Updates → Updates → Bool
comes_held old new = not (is_held old) && is_held new

-- The write to the disk ends. The update is committed where with it the votes of the disks that have the update become
-- enough, and ends where it was the last.
abbrev pub after_end : Updates → ℕ → Bool → Status → Updates
after_end u disk ok wanted = let next = with_end u disk ok wanted in closed (if comes_held u next then with_commit next else next)
