-- Turns find nothing to do, and a move is done: its descriptor may be committed.
use Rattle.std.specs.Prelude.{◌≡◌, ◌≢◌, [], None, Some, true, false}
use Rattle.lvm_num.specs.declared.descriptor.Descriptor.{Descriptor}
use Rattle.lvm_commit.specs.Settling.{MayCommit}
use Rattle.lvm_session.specs.declared.answers.CopyState.TheVariants as copy
use Rattle.lvm_session.specs.declared.bringing.OpenCopy.{OpenCopy}
use Rattle.lvm_session.specs.declared.open.Power.TheVariants as power
use Rattle.lvm_session.specs.Calls.{copy_state}
use Rattle.lvm_session.specs.Enabled.{first_event, is_lost}
use Rattle.lvm_session.specs.Judging.{is_move_done}
use Rattle.lvm_session.specs.Sound.{IsSound}
use Rattle.lvm_session.specs.State.{State}
use Rattle.lvm_move.specs.Moving.{MayWriteMove, missing_destination}
use Rattle.lvm_move_keeps.specs.Keeping.{HasMovedTo, IsDoneMoving}

-- the session goes on with votes enough to write, no event may be made, no transfer is out, and the copy that is open is a move that is done
pub record IsDrainedMoving (s : State) (c : OpenCopy) : Type 0 where
  pub on : s.core.power ≡ power.On
  pub votes : is_lost s.core ≡ false
  pub none : first_event s.core ≡ None
  pub idle : s.device.flights ≡ []
  pub is_open : s.core.copy ≡ Some c
  pub done : is_move_done s.core c ≡ true

-- Then nothing is left to be made of it: each request has landed or isn't admitted.
abbrev pub DrainedIsDone : Type 0
DrainedIsDone = (s : State) (c : OpenCopy) → IsSound s → IsDrainedMoving s c → IsDoneMoving s c

-- what a commit of the move is asked for
pub record MayCommitMove (s : State) (next : Descriptor) : Type 0 where
  pub may : MayCommit 2 next s.core.status s.device
  pub writes : MayWriteMove s.core
  pub there : missing_destination s.core ≡ None

-- So its descriptor may be committed, and its destination's disk isn't missing.
abbrev pub DoneMayCommit : Type 0
DoneMayCommit = (s : State) (c : OpenCopy) (next : Descriptor) → IsSound s → IsDrainedMoving s c → HasMovedTo c.lv c.lp c.pp s.core.descriptor next → s.core.status.stamp.epoch ≢ 0 → MayCommitMove s next

-- Of a session that goes on a move tells that it is done only where it is.
abbrev pub DoneIsJudged : Type 0
DoneIsJudged = (s : State) (c : OpenCopy) → IsSound s → s.core.power ≡ power.On → s.core.copy ≡ Some c → c.moves ≡ true → copy_state s.core ≡ copy.Done → is_move_done s.core c ≡ true
