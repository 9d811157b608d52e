-- The room that a session has taken.
use Rattle.std.specs.Prelude.{◌≡◌, ◌≤◌, length, vec_capacity}
use Rattle.lvm_session.specs.declared.session.Session.{Session}

-- no call of an event takes memory: the tables keep their room
pub record SameRooms (old new : Session) : Type 0 where
  pub requests : vec_capacity new.requests ≡ vec_capacity old.requests
  pub flying : vec_capacity new.flying ≡ vec_capacity old.flying
  pub bytes : length new.bytes.items ≡ length old.bytes.items

-- the tables have room for all requests, and for a transfer of each buffer, and `bytes` has it for the 256 blocks of a read
pub record HasRooms (s : Session) : Type 0 where
  pub requests : s.most ≤ vec_capacity s.requests
  pub flying : length s.pool ≤ vec_capacity s.flying
  pub bytes : 131072 ≤ length s.bytes.items
