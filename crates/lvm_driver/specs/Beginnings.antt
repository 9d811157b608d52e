-- Which sessions may begin.
use Rattle.std.specs.Prelude.{◌≡◌, ◌<◌, ◌^◌, ℕ, true, false, []}
use Rattle.lvm_num.specs.declared.descriptor.Descriptor.{Descriptor}
use Rattle.lvm_num.specs.declared.descriptor.Mode.{Mode}
use Rattle.lvm_num.specs.declared.record.Stamp.{Stamp}
use Rattle.lvm_num.specs.declared.status.Status.{Status}
use Rattle.lvm_num.specs.Descriptor.{IsValid}
use Rattle.lvm_num.specs.Status.{calls_missing}
use Rattle.lvm_num.specs.Votes.{is_enough_to_write, total_votes}
use Rattle.lvm_disk.specs.Device.{Device}
use Rattle.lvm_vol.specs.Log.{Log, is_open}
use Rattle.lvm_vol.specs.Order.{Ordered}
use Rattle.lvm_rec.specs.declared.homes.Homes.{Homes}
use Rattle.lvm_session.specs.Placed.{ArePlaced}
use Rattle.lvm_session.specs.Sound.{HasPower}
use Rattle.lvm_session.specs.Worked.{faultless, fresh, mirrored, status_of}
use Rattle.lvm_session_start.specs.declared.parts.Parts.{Parts}
use Rattle.lvm_session_start.specs.declared.parts.SessionRoom.{SessionRoom}
use Rattle.lvm_session_start.specs.Beginning.{MayBeginSession}
use Rattle.lvm_session_start.specs.Parts.{IsOneGroup, IsReserved, IsSessionRoom}

-- a group with votes, none of whose members the status calls missing
pub record IsWholeGroup (d : Descriptor) (s : Status) : Type 0 where
  pub valid : IsValid d
  pub group : IsOneGroup d s
  pub whole : (disk : ℕ) → calls_missing s disk ≡ false
  pub votes : is_enough_to_write d (total_votes d) ≡ true

-- a shelf at rest, on which the members are
pub record IsShelfOf (device : Device) (d : Descriptor) (s : Status) : Type 0 where
  pub lit : HasPower device
  pub idle : device.flights ≡ []
  pub placed : ArePlaced device.sizes d s

-- all requests of the history have landed
pub record IsClosedLog (history : Log) : Type 0 where
  pub ordered : Ordered history.run [] history.facts
  pub landed : (id : ℕ) → is_open history.facts id ≡ false
  pub few : history.room < 2 ^ 32

-- A session of a group of which no member is missing may begin, whatever the modes of its volumes.
abbrev pub WholeGroupsBegin : Type 0
WholeGroupsBegin = (device : Device) (history : Log) (stamp : Stamp) (homes : Homes) (room : SessionRoom) (d : Descriptor) (s : Status) (p : Parts)
    → IsSessionRoom room → IsReserved d s room p → IsWholeGroup d s → IsShelfOf device d s → IsClosedLog history → stamp.seq < 2 ^ 31 → MayBeginSession device history stamp homes p

-- a history without an entry, and the last stamp of those who made the group
abbrev pub no_log : Log
no_log = record { run = 50; facts = []; room = 65536; bytes = 65536 }

abbrev pub third_stamp : Stamp
third_stamp = record { epoch = 50; seq = 3 }

-- So may one of three disks with a mirrored volume, in each mode that it may have.
abbrev pub EachModeBegins : Type 0
EachModeBegins = (m : Mode) (homes : Homes) (room : SessionRoom) (p : Parts) → IsSessionRoom room → IsReserved (mirrored m) (status_of fresh) room p → MayBeginSession faultless no_log third_stamp homes p
