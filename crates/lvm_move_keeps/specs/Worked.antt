-- A session that is written out, in which a copy has moved to a partition of the third disk.
use Rattle.lvm_num.specs.declared.descriptor.Mode.{Mode}
use Rattle.lvm_moved.specs.Moved.{moved_descriptor}
use Rattle.lvm_session.specs.Sound.{IsSound}
use Rattle.lvm_session.specs.State.{State, state}
use Rattle.lvm_session.specs.Worked.{core_of, faultless}
use Rattle.lvm_session.specs.WorkedMoves.{free_destination, moving_to, whole_move}
use Rattle.std.specs.Prelude.{None}
use Rattle.lvm_move_keeps.specs.Keeping.{HasMovedTo, IsDoneMoving}

abbrev pub moved_session : Mode → State
moved_session m = state faultless (core_of (whole_move m))

-- It is sound, its move is done, and nothing is left to be made; the descriptor with the second copy there is one to which it has moved.
pub record MayBeCommitted (m : Mode) : Type 0 where
  pub sound : IsSound (moved_session m)
  pub done : IsDoneMoving (moved_session m) (moving_to 8 None)
  pub moved : HasMovedTo 1 0 free_destination (moved_session m).core.descriptor (moved_descriptor (moved_session m).core.descriptor 1 0 2 free_destination)

-- So it is in whatever mode the volume is.
abbrev pub MovesMayBeCommitted : Type 0
MovesMayBeCommitted = (m : Mode) → MayBeCommitted m
