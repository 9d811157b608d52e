-- A session whose commit of a move isn't heard of.
use Rattle.std.specs.Prelude.{◌≡◌, ◌∷◌, [], true, ℕ, List, Err}
use Rattle.lvm_num.specs.declared.descriptor.Descriptor.{Descriptor}
use Rattle.lvm_num.specs.declared.descriptor.Mode.{Mode}
use Rattle.lvm_core.specs.declared.fault.CommitFault.TheVariants as fault
use Rattle.lvm_path.specs.declared.request.Phase.TheVariants as phase
use Rattle.lvm_session.specs.declared.bringing.OpenCopy.{OpenCopy}
use Rattle.lvm_session.specs.declared.open.Power.TheVariants as power
use Rattle.lvm_session.specs.Calls.{closed}
use Rattle.lvm_session.specs.Judging.{is_waiting}
use Rattle.lvm_session.specs.Sound.{IsSound}
use Rattle.lvm_session.specs.State.{Core, State, state}
use Rattle.lvm_session.specs.Worked.{a_write, asking, core_of, faultless, held_write}
use Rattle.lvm_session.specs.WorkedMoves.{destination_flight}
use Rattle.lvm_move.specs.Moving.{CommitsMove}
use Rattle.lvm_move_keeps.specs.Keeping.{HasMovedTo, IsDoneMoving}

-- its copy is closed, and it is stuck
abbrev pub stuck_without_copy : Core → Core
stuck_without_copy core = record (closed core) { power = power.Stuck }

-- Such a session is sound once its copy is closed and it is stuck.
abbrev pub StuckMoveIsSound : Type 0
StuckMoveIsSound = (s : State) (c : OpenCopy) (next : Descriptor) (content : List ℕ) (before after : ℕ) (new : State)
    → IsSound s → IsDoneMoving s c → HasMovedTo c.lv c.lp c.pp s.core.descriptor next
    → CommitsMove next content before after s new (Err fault.Stuck) → IsSound (state new.device (stuck_without_copy new.core))

-- ---- one that is written out

-- a write waits for admission, and the transfer that isn't heard of has the only buffer
abbrev pub stuck_session : Mode → State
stuck_session m = state (record faultless { flights = destination_flight ∷ [] }) (record (core_of (held_write m)) { pool = true ∷ []; power = power.Stuck })

-- It is sound, and its write hasn't landed.
pub record IsStuckWaiting (m : Mode) : Type 0 where
  pub sound : IsSound (stuck_session m)
  pub requests : (stuck_session m).core.requests ≡ asking 1 a_write phase.Held [] ∷ []
  pub waits : is_waiting (asking 1 a_write phase.Held []) ≡ true

-- So it is in whatever mode the volume is.
abbrev pub StuckSessionsMayWait : Type 0
StuckSessionsMayWait = (m : Mode) → IsStuckWaiting m
