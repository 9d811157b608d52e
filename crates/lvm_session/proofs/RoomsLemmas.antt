-- The rooms of a session last.
use Rattle.std.proofs.Common.{◌≡◌, length, arith}
use Rattle.lvm_session.specs.declared.session.Session.{Session}
use Rattle.lvm_session.specs.Rooms.{HasRooms, SameRooms}

-- an event that keeps the room keeps it enough, since each leaves the most requests and the number of buffers as they are
pub rooms_last : (old new : Session) → HasRooms old → SameRooms old new → new.most ≡ old.most → length new.pool ≡ length old.pool → HasRooms new
rooms_last old new has same most pool = record {
  requests = let fit = has.requests in let kept = same.requests in omega (arith, fit, kept, most);
  flying = let fit = has.flying in let kept = same.flying in omega (arith, fit, kept, pool);
  bytes = let fit = has.bytes in let kept = same.bytes in omega (arith, fit, kept);
}
