-- A copy that begins to move.
use Rattle.std.specs.Prelude.{◌≡◌, ℕ, ◌==◌, ◌&&◌, not, false, List, None, Some}
use Rattle.std.specs.List.{list_any}
use Rattle.lvm_num.specs.declared.descriptor.Mode.{Mode}
use Rattle.lvm_num.specs.declared.place.Pp.{Pp}
use Rattle.lvm_num.specs.Descriptor.{is_pp}
use Rattle.lvm_moved.specs.Moved.{MayStandOn, moved_descriptor}
use Rattle.lvm_session.specs.Calls.{copy_at, move_fault}
use Rattle.lvm_session.specs.Worked.{calm, core_of, mirrored}
use Rattle.lvm_session.specs.WorkedMoves.{free_destination, open_move}
use Rattle.lvm_keeps_events.specs.Opening.{IsApart}
use Rattle.lvm_going.specs.Frames.{is_moving}
use Rattle.lvm_going.specs.Moves.{next_of}

-- none of these copies but the one of this number, from 1, stands on the disk
abbrev pub AreApartFrom : List Pp → ℕ → ℕ → Type 0
AreApartFrom copies number disk = (from : Pp) → copy_at copies number ≡ Some from → list_any (λ (p : Pp). not (is_pp p from) && p.disk == disk) copies ≡ false

-- The second copy of a volume that is mirrored on two of three disks may begin to move to the third: nothing is against it, and the descriptor with it there may stand. While
-- it moves that one is to be ready.
pub record MayMoveSo (m : Mode) : Type 0 where
  pub still : is_moving (core_of (calm m)) ≡ false
  pub apart : IsApart (mirrored m) 1 0 2 free_destination
  pub fine : move_fault (core_of (calm m)) 1 0 2 free_destination ≡ None
  pub stands : MayStandOn (mirrored m) 1 0 2 free_destination
  pub ready : next_of (core_of (open_move m)) ≡ Some (moved_descriptor (mirrored m) 1 0 2 free_destination)

-- So it is in whatever mode the volume is.
abbrev pub MirrorsMayMove : Type 0
MirrorsMayMove = (m : Mode) → MayMoveSo m
