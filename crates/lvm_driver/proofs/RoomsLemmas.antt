-- The room that a session has stays.
use Rattle.lvm_session.specs.declared.session.Session.{Session}
use Rattle.lvm_session.specs.Fields.{core_of}
use Rattle.lvm_session.specs.Rooms.{HasRooms, SameRooms}
use Rattle.lvm_keeps_events.specs.Telling.{SameRoom}

pub rooms_stay : (old new : Session) → SameRoom (core_of old) (core_of new) → SameRooms old new → HasRooms old → HasRooms new
rooms_stay old new it same rooms = record {
  requests = rw (it.most, same.requests) rooms.requests;
  flying = rw (it.long, same.flying) rooms.flying;
  bytes = rw same.bytes rooms.bytes;
}
