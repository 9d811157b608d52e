-- How a session begins.
use Rattle.std.specs.Prelude.{◌≡◌, ◌<◌, ◌+◌, ◌^◌, ℕ, true, false, List, [], None, length, nat_lt, replicate, slice_index_or, if◌then◌else◌}
use Rattle.lvm_num.specs.declared.place.Pp.{Pp}
use Rattle.lvm_num.specs.declared.record.Stamp.{Stamp}
use Rattle.lvm_num.specs.Descriptor.{IsValid}
use Rattle.lvm_num.specs.Votes.{is_enough_to_write, votes_in}
use Rattle.lvm_disk.specs.Device.{Device}
use Rattle.lvm_vol.specs.Facts.{On}
use Rattle.lvm_vol.specs.Log.{Log, is_open, with_fact}
use Rattle.lvm_vol.specs.Order.{Ordered}
use Rattle.lvm_status.specs.Update.{members_there}
use Rattle.lvm_keeps.specs.passed.Rec.{Homes}
use Rattle.lvm_keeps.specs.passed.Session.{Core, is_entailed, updates_left, ArePlaced, HasPower}
use Rattle.lvm_keeps.specs.passed.SessionOpenPower as power
use Rattle.lvm_session_start.specs.declared.parts.Parts.{Parts}
use Rattle.lvm_session_start.specs.Parts.{IsOneGroup, IsReserved, IsSessionRoom}

-- how many transfers of each of 128 disks have failed; of those that aren't on the shelf none
pub record AreFaults (device : Device) (faults : List ℕ) : Type 0 where
  pub long : length faults ≡ 128
  pub each : (disk : ℕ) → slice_index_or faults disk 0 ≡ (if nat_lt disk (length device.sizes) then device.counts.faults disk else 0)

-- a session of these parts, with this history and these faults, in which nothing is under way
abbrev pub with_parts : Parts → Log → Homes → List ℕ → Core
with_parts p history homes faults = record {
  descriptor = p.descriptor;
  history = history;
  requests = p.requests.items;
  most = p.room.table;
  queue = p.queue;
  copy = None;
  pool = p.pool;
  flying = p.flying.items;
  status = p.updater;
  cache = p.cache;
  homes = homes;
  last = replicate 512 0;
  origin = record { faults = faults; table = p.table };
  power = power.On;
}

-- the session that begins with these parts, after these entries and On, with this stamp as its last
abbrev pub first_core : Parts → Log → Stamp → Homes → List ℕ → Core
first_core p history stamp homes faults = with_parts (record p { updater = record p.updater { stamp = stamp } }) (with_fact history (On stamp.epoch)) homes faults

-- A session may begin over a shelf at rest, on which the members are that its status doesn't call missing, with votes enough to write, a history all of whose
-- requests have landed, nothing that missing disks would entail, and numbers for the updates that may follow.
pub record MayBeginSession (device : Device) (history : Log) (stamp : Stamp) (homes : Homes) (p : Parts) : Type 0 where
  pub reserved : IsReserved p.descriptor p.table p.room p
  pub room : IsSessionRoom p.room
  pub valid : IsValid p.descriptor
  pub group : IsOneGroup p.descriptor p.table
  pub ordered : Ordered history.run [] history.facts
  pub landed : (id : ℕ) → is_open history.facts id ≡ false
  pub few : history.room < 2 ^ 32
  pub lit : HasPower device
  pub idle : device.flights ≡ []
  pub placed : ArePlaced device.sizes p.descriptor p.table
  pub votes : is_enough_to_write p.descriptor (votes_in p.descriptor (members_there p.descriptor p.table)) ≡ true
  pub behind : (pp : Pp) → is_entailed (first_core p history stamp homes []) pp ≡ false
  pub numbers : stamp.seq + updates_left (first_core p history stamp homes []) < 2 ^ 32
