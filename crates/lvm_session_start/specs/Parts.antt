-- What a session has before it begins.
use Rattle.std.specs.Prelude.{◌≡◌, ◌≤◌, ◌+◌, ℕ, false, [], Some, None, length, replicate, vec_capacity, if◌then◌else◌}
use Rattle.lvm_num.specs.declared.descriptor.Descriptor.{Descriptor}
use Rattle.lvm_num.specs.declared.status.Status.{Status}
use Rattle.lvm_num.specs.Descriptor.{is_member}
use Rattle.lvm_mwc.specs.Cache.{Cached, no_notes, notes_on}
use Rattle.lvm_status.specs.Calls.{first_updates}
use Rattle.lvm_status.specs.Members.{HasItsRows}
use Rattle.lvm_status.specs.Update.{seen}
use Rattle.lvm_session_start.specs.declared.parts.Parts.{Parts}
use Rattle.lvm_session_start.specs.declared.parts.SessionRoom.{SessionRoom}

-- the numbers that a room may have
pub record IsSessionRoom (room : SessionRoom) : Type 0 where
  pub requests : room.table ≤ 1024
  pub a_buffer : 1 ≤ room.pool
  pub buffers : room.pool ≤ 1024

-- the status is one of the group, with a row for exactly the members
pub record IsOneGroup (d : Descriptor) (s : Status) : Type 0 where
  pub id : s.id ≡ d.id
  pub rows : HasItsRows d s

-- a cache without entries, in which the notes of the members name nothing
pub record IsEmptyCache (d : Descriptor) (c : Cached) : Type 0 where
  pub entries : c.entries ≡ []
  pub notes : (disk : ℕ) → notes_on c disk ≡ (if is_member d disk then Some (no_notes disk) else None)

-- The parts of a session of this group, which begins with this status: nothing is in use, and there is this room.
pub record IsReserved (d : Descriptor) (s : Status) (room : SessionRoom) (p : Parts) : Type 0 where
  pub descriptor : p.descriptor ≡ d
  pub table : p.table ≡ s
  pub room_is : p.room ≡ room
  pub requests : p.requests.items ≡ []
  -- a place for each request, and one for the copy that is open
  pub queue : p.queue ≡ record { room = room.table + 1; rows = [] }
  pub pool : p.pool ≡ replicate room.pool false
  pub flying : p.flying.items ≡ []
  pub status : seen p.updater ≡ first_updates s d
  pub cache : IsEmptyCache d p.cache
  pub for_requests : room.table ≤ vec_capacity p.requests
  pub for_transfers : room.pool ≤ vec_capacity p.flying
  pub for_blocks : length p.bytes.items ≡ 131072
