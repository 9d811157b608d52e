-- What a transfer of the copy was for, and what comes of it.
use Rattle.std.specs.Prelude.{◌≡◌, ◌||◌, ◌==◌, ◌+◌, ◌<◌, ◌^◌, ℕ, true, false, [], length, Option, Some}
use Rattle.lvm_num.specs.Disks.{has}
use Rattle.lvm_vol.specs.Order.{Ordered}
use Rattle.lvm_hold.specs.Waiting.{AreBelow}
use Rattle.lvm_status.specs.Calls.{IsMarkable}
use Rattle.lvm_session.specs.declared.bringing.OpenCopy.{OpenCopy}
use Rattle.lvm_session.specs.declared.bringing.Step.TheVariants as step
use Rattle.lvm_session.specs.State.{Core}
use Rattle.lvm_session.specs.Judging.{is_running}
use Rattle.lvm_session.specs.Bringing.{is_whole, step_place}
use Rattle.lvm_session.specs.Ends.{CopyStepsOn, MovesOn}
use Rattle.lvm_session_turn.specs.declared.step.Carry.{Carry}
use Rattle.lvm_session_turn.specs.declared.step.Carry.TheVariants as carry

-- what the copy does, or that it has ended
abbrev pub Carried : OpenCopy → Carry → Type 0
Carried c carry.Nothing = is_running c ≡ false
Carried c (carry.Read source) = (is_running c ≡ true) × (c.step ≡ step.Reading source)
Carried c carry.Write = (is_running c ≡ true) × (c.step ≡ step.Writing)

-- so it is of the copy that is open
pub record IsCarrying (core : Core) (what : Carry) : Type 0 where
  pub copy : OpenCopy
  pub is_open : core.copy ≡ Some copy
  pub its : Carried copy what

-- one disk more is tried in vain
pub record Tries (old : OpenCopy) (disk : ℕ) (new : Option OpenCopy) : Type 0 where
  pub tried : ℕ
  pub tries : (d : ℕ) → has tried d ≡ (has old.tried d || d == disk)
  pub is : new ≡ Some (record old { step = step.Idle; tried = tried })

-- the copy at its next track group, with this place in the hold queue
pub record MovesTo (old : OpenCopy) (place : ℕ) (new : OpenCopy) : Type 0 where
  pub tried : (d : ℕ) → has new.tried d ≡ false
  pub is : new ≡ record old { cursor = old.cursor + 1; step = step.Idle; tried = new.tried; place = place }

-- The hold queue has a place behind all that are inside for this step, and its partition can be marked.
pub record MayGoOn (core : Core) (c : OpenCopy) : Type 0 where
  pub room : length core.queue.rows < core.queue.room
  pub last : AreBelow core.queue.rows c.place
  pub markable : IsMarkable core.status.wanted c.pp

-- The copy that is open may go on with its next track group.
pub record MayPass (core : Core) : Type 0 where
  pub copy : OpenCopy
  pub is_open : core.copy ≡ Some copy
  pub cursor : copy.cursor + 1 < 2 ^ 32
  pub ordered : Ordered core.history.run [] core.history.facts
  pub room : length core.queue.rows < core.queue.room
  pub last : AreBelow core.queue.rows (step_place core)
  pub markable : IsMarkable core.status.wanted copy.pp

-- It does, or is to be cleared.
pub record CopyGoesOn (old new : Core) : Type 0 where
  pub copy : OpenCopy
  pub is_open : old.copy ≡ Some copy
  pub next : OpenCopy
  pub moves : MovesOn old copy next
  pub goes : CopyStepsOn (is_whole old next) old next new
