-- The ends of transfers of which nothing follows for the status leave a session sound.
use Rattle.std.specs.Prelude.{◌≡◌, ◌≤◌, ℕ, Bool, true, false, Some, Option, slice_get}
use Rattle.lvm_num.specs.Buffer.{Buffer}
use Rattle.lvm_num.specs.declared.place.Pp.{Pp}
use Rattle.lvm_disk.specs.Counts.{Counts}
use Rattle.lvm_disk.specs.Device.{Media}
use Rattle.lvm_session.specs.declared.bringing.OpenCopy.{OpenCopy}
use Rattle.lvm_session.specs.declared.bringing.Step.TheVariants as step
use Rattle.lvm_session.specs.declared.flown.Flown.{Flown}
use Rattle.lvm_session.specs.declared.flown.Owner.TheVariants as owner
use Rattle.lvm_session.specs.State.{State, state}
use Rattle.lvm_session.specs.Judging.{is_running}
use Rattle.lvm_session.specs.Ends.{FailsCopy, MissesSource, NoteLearns, Returns, after_quit, after_read}
use Rattle.lvm_keeps.specs.Keeps.{KeepsSound}
use Rattle.lvm_session.specs.Sound.{IsSound}

-- Whatever stands on the media, and however many transfers have failed since.
abbrev pub CountsKeep : Type 0
CountsKeep = (s : State) (media : Option Media) (counts : Counts) → IsSound s → ((disk : ℕ) → s.device.counts.faults disk ≤ counts.faults disk) → IsSound (state (record s.device { media = media; counts = counts }) s.core)

-- the write of a note has ended well
pub record EndsNote (old new : State) (at disk : ℕ) : Type 0 where
  pub row : Flown
  pub buf : Buffer
  pub own : row.owner ≡ owner.Note disk
  pub returns : Returns old new at row true buf
  pub learns : NoteLearns old.core at disk true buf new.core

abbrev pub NoteEndKeeps : Type 0
NoteEndKeeps = (at disk : ℕ) → KeepsSound (λ old new. EndsNote old new at disk)

-- the read of the copy that is being brought up has ended well: it has the blocks in hand
pub record EndsRead (old new : State) (at : ℕ) : Type 0 where
  pub row : Flown
  pub buf : Buffer
  pub copy : OpenCopy
  pub source : Pp
  pub own : row.owner ≡ owner.Copy
  pub is_open : old.core.copy ≡ Some copy
  pub runs : is_running copy ≡ true
  pub reads : copy.step ≡ step.Reading source
  pub returns : Returns old new at row true buf
  pub is : new.core ≡ after_read old.core at copy buf

abbrev pub CopyReadEndKeeps : Type 0
CopyReadEndKeeps = (at : ℕ) → KeepsSound (λ old new. EndsRead old new at)

-- a transfer of a copy has ended, well or badly, that had ended before
pub record EndsQuit (old new : State) (at : ℕ) (ok : Bool) : Type 0 where
  pub row : Flown
  pub buf : Buffer
  pub copy : OpenCopy
  pub own : row.owner ≡ owner.Copy
  pub is_open : old.core.copy ≡ Some copy
  pub over : is_running copy ≡ false
  pub returns : Returns old new at row ok buf
  pub is : new.core ≡ after_quit old.core at copy buf

abbrev pub CopyQuitKeeps : Type 0
CopyQuitKeeps = (at : ℕ) (ok : Bool) → KeepsSound (λ old new. EndsQuit old new at ok)

-- the write of the copy that is being brought up has failed, and the copy with it
pub record EndsWrite (old new : State) (at : ℕ) : Type 0 where
  pub row : Flown
  pub buf : Buffer
  pub copy : OpenCopy
  pub own : row.owner ≡ owner.Copy
  pub is_open : old.core.copy ≡ Some copy
  pub runs : is_running copy ≡ true
  pub writes : copy.step ≡ step.Writing
  pub returns : Returns old new at row false buf
  pub fails : FailsCopy old.core at copy buf new.core

abbrev pub CopyWriteFailKeeps : Type 0
CopyWriteFailKeeps = (at : ℕ) → KeepsSound (λ old new. EndsWrite old new at)

-- the read of the copy that is being brought up has failed, and its source is tried in vain
pub record EndsMiss (old new : State) (at : ℕ) : Type 0 where
  pub row : Flown
  pub buf : Buffer
  pub copy : OpenCopy
  pub source : Pp
  pub own : row.owner ≡ owner.Copy
  pub is_open : old.core.copy ≡ Some copy
  pub runs : is_running copy ≡ true
  pub reads : copy.step ≡ step.Reading source
  pub returns : Returns old new at row false buf
  pub misses : MissesSource old.core at copy source buf new.core

abbrev pub CopyReadFailKeeps : Type 0
CopyReadFailKeeps = (at : ℕ) → KeepsSound (λ old new. EndsMiss old new at)
