-- A session whose move is done is seen as a state whose partition beside the group's copies may take the place of a copy.
use Rattle.std.specs.Prelude.{List}
use Rattle.lvm_num.specs.declared.place.Pp.{Pp}
use Rattle.lvm_num.specs.declared.descriptor.Descriptor.{Descriptor}
use Rattle.lvm_vol.specs.Facts.{Fact}
use Rattle.lvm_disk.specs.Device.{image_of}
use Rattle.lvm_kept.specs.Contents.{contents_of}
use Rattle.lvm_session.specs.declared.bringing.OpenCopy.{OpenCopy}
use Rattle.lvm_session.specs.State.{State}
use Rattle.lvm_invariant.specs.State.{Beside}
use Rattle.lvm_places.specs.Places.{Marking}
use Rattle.lvm_moved.specs.Moved.{moved_descriptor}
use Rattle.lvm_move_laws.specs.Committing.{MayTakePlace}
use Rattle.lvm_move_keeps.specs.Drained.{IsDrainedMoving}
use Rattle.lvm_tie.specs.Tied.{IsTied}

-- the descriptor in which the copy stands on its destination
abbrev pub next_group : State → OpenCopy → Descriptor
next_group s c = moved_descriptor s.core.descriptor c.lv c.lp c.copy c.pp

-- Its destination, the partition beside, may take the place of the copy that moves.
pub record TakesPlace (past : List Fact) (s : State) (c : OpenCopy) (tied : IsTied past s) : Type 0 where
  pub from : Pp
  pub marking : Marking
  pub beside : Beside
  pub may : MayTakePlace tied.votes tied.view marking beside s.core.descriptor (next_group s c) c.lv c.lp from (contents_of (image_of s.device.sizes tied.media))

-- So it is of a tied session whose move is done, where turns find nothing to do.
abbrev pub DrainedTakesPlace : Type 0
DrainedTakesPlace = (past : List Fact) (s : State) (c : OpenCopy) (tied : IsTied past s) → IsDrainedMoving s c → TakesPlace past s c tied
