-- How a session starts.
use Rattle.std.specs.Prelude.{◌≤◌}
use Rattle.lvm_num.specs.declared.descriptor.Descriptor.{Descriptor}
use Rattle.lvm_num.specs.declared.status.Status.{Status}
use Rattle.lvm_num.specs.Descriptor.{IsValid}
use Rattle.lvm_session_start.specs.declared.parts.Parts.{Parts}
use Rattle.lvm_session_start.specs.declared.parts.SessionRoom.{SessionRoom}
use Rattle.lvm_session_start.specs.Parts.{IsOneGroup, IsReserved, IsSessionRoom}
use Rattle.lvm_core.specs.declared.parts.Room.{Room}

-- the numbers that a room may have
pub record IsRoom (room : Room) : Type 0 where
  pub a_request : 1 ≤ room.table
  pub requests : room.table ≤ 1024
  pub a_buffer : 1 ≤ room.pool
  pub buffers : room.pool ≤ 1024
  pub entries : 4 ≤ room.entries

-- that of the session itself, without the one of its history
abbrev pub session_room_of : Room → SessionRoom
session_room_of room = record { table = room.table; pool = room.pool }

-- The parts of a session of this group, which begins with this status: nothing is in use, and there is this room.
abbrev pub IsReservedFor : Descriptor → Status → Room → Parts → Type 0
IsReservedFor d s room p = IsReserved d s (session_room_of room) p

-- the parts of some session
pub record AreReserved (p : Parts) : Type 0 where
  pub reserved : IsReserved p.descriptor p.table p.room p
  pub room : IsSessionRoom p.room
  pub valid : IsValid p.descriptor
  pub group : IsOneGroup p.descriptor p.table
