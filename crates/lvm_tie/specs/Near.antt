-- A session that is tied but for the end of its open copy.
use Rattle.std.specs.Prelude.{◌≡◌, true, List, Option, Some, None}
use Rattle.lvm_vol.specs.Facts.{Fact}
use Rattle.lvm_disk.specs.Device.{Media, Device, image_of}
use Rattle.lvm_kept.specs.Contents.{contents_of}
use Rattle.lvm_kept.specs.Torn.{RecordWrite}
use Rattle.lvm_session.specs.declared.bringing.OpenCopy.{OpenCopy}
use Rattle.lvm_session.specs.declared.bringing.CopyEnd.{CopyEnd}
use Rattle.lvm_session.specs.State.{Core, state}
use Rattle.lvm_session.specs.Judging.{is_running}
use Rattle.lvm_session.specs.Bringing.{with_end}
use Rattle.lvm_invariant.specs.State.{ModelCopy, ModelState}
use Rattle.lvm_invariant.specs.Found.{Votes}
use Rattle.lvm_invariant.specs.Good.{Good}
use Rattle.lvm_crash.specs.Session.{Describes}
use Rattle.lvm_crash.specs.Owned.{OnlyUpdateSince}
use Rattle.lvm_tie.specs.Out.{AreNotes, CarryTheirs}
use Rattle.lvm_tie.specs.Seen.{Sees, update_of}
use Rattle.lvm_tie.specs.Tied.{IsSetting, IsCopyAimed, IsOrderly, IsTied, HoldsRecords}

-- a copy is open, and it runs
pub record IsRunning (core : Core) : Type 0 where
  pub copy : OpenCopy
  pub is_open : core.copy ≡ Some copy
  pub runs : is_running copy ≡ true

-- nothing is open once it has ended
abbrev pub open_after : Option CopyEnd → Option ModelCopy → Option ModelCopy
open_after None o = o
open_after (Some how) o = None

-- All of the tie but what is asked of the session alone, where the copy ends so and the state has it as ended.
pub record IsNear (past : List Fact) (device : Device) (core : Core) (how : Option CopyEnd) : Type 0 where
  pub votes : Votes
  pub media : Media
  pub setting : IsSetting past core.history.run core.descriptor device.media votes media
  pub view : ModelState
  pub open_copy : Option ModelCopy
  pub sees : Sees past core (record view { open_copy = open_copy })
  pub ended : view.open_copy ≡ open_after how open_copy
  pub good : Good votes view
  pub describes : Describes view view.facts core.descriptor (update_of core.status) (contents_of (image_of device.sizes media))
  pub write : Option RecordWrite
  pub since : OnlyUpdateSince device write (update_of core.status)
  pub recorded : HoldsRecords view.committed.stamp core.descriptor core.origin.table core.status core.homes (image_of device.sizes media)
  pub notes : AreNotes core
  pub copy_aimed : IsCopyAimed core view
  pub carry : CarryTheirs core view device.flights core.flying

-- Where the open copy ends so while it runs, or doesn't end, the session is tied after it: a step of it that isn't out leaves the queue.
abbrev pub NearTies : Type 0
NearTies = (past : List Fact) (device : Device) (core : Core) (how : Option CopyEnd) (near : IsNear past device core how) → ((e : CopyEnd) → how ≡ Some e → IsRunning core)
    → IsOrderly (state device (with_end core how)) near.write → IsTied past (state device (with_end core how))
