use Rattle.lvm_keeps_events.proofs.TellingLemmas.Frames.{turn_room}
use Rattle.lvm_keeps_events.proofs.tells.room_stays.Goals as goal

pub returns : goal.returns
returns c = turn_room
