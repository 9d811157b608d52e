-- A move that is committed.
use Rattle.std.specs.Prelude.{◌≡◌, ◌≢◌, true, Some}
use Rattle.lvm_num.specs.declared.descriptor.Descriptor.{Descriptor}
use Rattle.lvm_num.specs.declared.descriptor.Mode.{Mode}
use Rattle.lvm_session.specs.declared.answers.CopyState.TheVariants as copy
use Rattle.lvm_session.specs.Calls.{copy_state}
use Rattle.lvm_session.specs.Sound.{IsSound}
use Rattle.lvm_session.specs.State.{State}
use Rattle.lvm_session.specs.WorkedMoves.{free_destination}
use Rattle.lvm_move_keeps.specs.Drained.{MayCommitMove}
use Rattle.lvm_move_keeps.specs.Worked.{moved_session}
use Rattle.lvm_going.specs.Frames.{is_moving}
use Rattle.lvm_going.specs.Moves.{moved_descriptor, next_of}
use Rattle.lvm_driver.specs.Drains.{IsDrained}

-- This descriptor is the one that is to be ready for the move that is open, and may be committed; what is wanted is committed.
pub record IsReadyMove (s : State) (next : Descriptor) : Type 0 where
  pub ready : next_of s.core ≡ Some next
  pub may : MayCommitMove s next
  pub settled : s.core.status.committed ≡ s.core.status.wanted

-- The second copy of a volume that is mirrored on two of three disks has moved to the third: all that a commit asks for holds, and its descriptor is to be ready.
pub record MayCommitSo (m : Mode) : Type 0 where
  pub sound : IsSound (moved_session m)
  pub drained : IsDrained (moved_session m)
  pub moves : is_moving (moved_session m).core ≡ true
  pub done : copy_state (moved_session m).core ≡ copy.Done
  pub epoch : (moved_session m).core.status.stamp.epoch ≢ 0
  pub ready : next_of (moved_session m).core ≡ Some (moved_descriptor (moved_session m).core.descriptor 1 0 2 free_destination)

-- So it is in whatever mode the volume is.
abbrev pub MirrorsMayCommit : Type 0
MirrorsMayCommit = (m : Mode) → MayCommitSo m
