-- What a copy is as it is opened.
use Rattle.std.specs.Prelude.{◌≡◌, ◌<◌, ℕ, Some, true, false, length, nat_lt, if◌then◌else◌}
use Rattle.lvm_num.specs.declared.descriptor.LvRow.{LvRow}
use Rattle.lvm_num.specs.declared.descriptor.Descriptor.{Descriptor}
use Rattle.lvm_num.specs.declared.place.Pp.{Pp}
use Rattle.lvm_num.specs.Descriptor.{copies_of, volume_of}
use Rattle.lvm_num.specs.Disks.{has}
use Rattle.lvm_disk.specs.Counts.{Counts}
use Rattle.lvm_disk.specs.Device.{Device}
use Rattle.lvm_session.specs.declared.bringing.OpenCopy.{OpenCopy}
use Rattle.lvm_session.specs.State.{Core}
use Rattle.lvm_session.specs.Bringing.{step_place}
use Rattle.lvm_session.specs.Calls.{copy_at, faults_of, opened}
use Rattle.lvm_session.specs.Causes.{faults_at_first}

-- how many transfers of a disk have failed; of one that isn't on the shelf, on which none can fail, as many as when the session began
abbrev pub faults_seen : Device → Core → ℕ → ℕ
faults_seen device core disk = if nat_lt disk (length device.sizes) then device.counts.faults disk else faults_at_first core disk

-- the counts of a shelf with these faults
abbrev pub counts_seen : Device → Core → Counts
counts_seen device core = record device.counts { faults = faults_seen device core }

-- The volume has this logical partition, and that a copy of this number, from 1.
pub record HasCopy (d : Descriptor) (lv lp number : ℕ) : Type 0 where
  pub row : LvRow
  pub volume : volume_of d lv ≡ Some row
  pub within : lp < row.lps
  pub pp : Pp
  pub copy_is : copy_at (copies_of row lp) number ≡ Some pp

-- It is that copy, of which nothing is copied and nothing tried yet, at the place behind all requests.
pub record IsOpened (device : Device) (core : Core) (lv lp number : ℕ) (c : OpenCopy) : Type 0 where
  pub row : LvRow
  pub volume : volume_of core.descriptor lv ≡ Some row
  pub pp : Pp
  pub copy_is : copy_at (copies_of row lp) number ≡ Some pp
  pub nothing : (d : ℕ) → has c.tried d ≡ false
  pub is : c ≡ opened false pp lv lp number c.tried (faults_of (counts_seen device core) (copies_of row lp) pp) (step_place core)

-- It is that copy as it begins to move to this partition, of which nothing is copied and nothing tried yet, at the place behind all requests.
pub record IsOpenedMove (device : Device) (core : Core) (lv lp number : ℕ) (to : Pp) (c : OpenCopy) : Type 0 where
  pub row : LvRow
  pub volume : volume_of core.descriptor lv ≡ Some row
  pub nothing : (d : ℕ) → has c.tried d ≡ false
  pub is : c ≡ opened true to lv lp number c.tried (faults_of (counts_seen device core) (copies_of row lp) to) (step_place core)
