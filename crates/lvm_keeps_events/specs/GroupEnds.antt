-- The ends of the writes by which a copy is brought up leave a session sound.
use Rattle.std.specs.Prelude.{◌≡◌, ℕ, true, Some}
use Rattle.lvm_num.specs.Buffer.{Buffer}
use Rattle.lvm_session.specs.declared.bringing.OpenCopy.{OpenCopy}
use Rattle.lvm_session.specs.declared.bringing.Step.TheVariants as step
use Rattle.lvm_session.specs.declared.flown.Flown.{Flown}
use Rattle.lvm_session.specs.declared.flown.Owner.TheVariants as owner
use Rattle.lvm_session.specs.Judging.{is_running}
use Rattle.lvm_session.specs.State.{State}
use Rattle.lvm_session.specs.Ends.{PassesGroup, Returns}
use Rattle.lvm_keeps.specs.Keeps.{KeepsSound}

-- the write of the copy that is being brought up has ended well: its next track group follows, or its clearing is wanted
pub record EndsGroup (old new : State) (at : ℕ) : Type 0 where
  pub row : Flown
  pub buf : Buffer
  pub copy : OpenCopy
  pub own : row.owner ≡ owner.Copy
  pub is_open : old.core.copy ≡ Some copy
  pub runs : is_running copy ≡ true
  pub writes : copy.step ≡ step.Writing
  pub returns : Returns old new at row true buf
  pub passes : PassesGroup old.core at copy buf new.core

abbrev pub CopyWriteEndKeeps : Type 0
CopyWriteEndKeeps = (at : ℕ) → KeepsSound (λ old new. EndsGroup old new at)
