-- A session over two disks, written out byte by byte, whose second copy has moved to the next partition of its disk. (That what is asked where a move is committed can be met.)
use Rattle.std.specs.Prelude.{◌≢◌, true, false, [], ◌∷◌, None, Some, replicate}
use Rattle.lvm_num.specs.declared.descriptor.Mode.{Mode}
use Rattle.lvm_num.specs.declared.status.Status.{Status}
use Rattle.lvm_kept.specs.Examples.{row_of}
use Rattle.lvm_session.specs.declared.bringing.OpenCopy.{OpenCopy}
use Rattle.lvm_session.specs.State.{State, state}
use Rattle.lvm_session.specs.Worked.{bringing_up}
use Rattle.lvm_move_keeps.specs.Drained.{IsDrainedMoving}
use Rattle.lvm_tie.specs.Spares.{SparesDescriptors}
use Rattle.lvm_tie.specs.Tied.{IsTied}
use Rattle.lvm_tie.specs.Worked.{begun, making, table}
use Rattle.lvm_move_tie.specs.Taking.{TakesPlace}
use Rattle.lvm_move_tie.specs.Worked.{free_partition}

-- all its track groups are copied there
abbrev pub moving : OpenCopy
moving = record (bringing_up 8 None) { pp = free_partition; moves = true }

-- since it was opened that partition counts as stale from the beginning on
abbrev pub first_table : Mode → Status
first_table mode = record (table mode false) { rows = row_of 0 false ∷ record (row_of 1 false) { stale = 2 ∷ replicate 126 0 } ∷ [] }

-- the session, whose records stand on the disks as it began
abbrev pub moved : Mode → State
moved mode = let s = begun mode false in state s.device (record s.core { copy = Some moving; origin = record s.core.origin { table = first_table mode } })

-- It is tied, its move is done, and its newest descriptors are spared. So it is seen as a state whose partition beside may take the place of the copy.
pub record IsTiedMoved (mode : Mode) : Type 0 where
  pub tied : IsTied (making mode) (moved mode)
  pub drained : IsDrainedMoving (moved mode) moving
  pub spares : SparesDescriptors (moved mode)
  pub epoch : (moved mode).core.status.stamp.epoch ≢ 0
  pub place : TakesPlace (making mode) (moved mode) moving tied

-- So it is in whatever mode the volume is.
abbrev pub MovesAreTied : Type 0
MovesAreTied = (mode : Mode) → IsTiedMoved mode
