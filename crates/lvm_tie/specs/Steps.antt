-- The ends of the transfers by which a copy is brought up.
use Rattle.std.specs.Prelude.{◌≡◌, ℕ, Bool}
use Rattle.lvm_disk.specs.Device.{HasSectors}
use Rattle.lvm_session.specs.declared.flown.Owner.TheVariants as owner
use Rattle.lvm_session.specs.State.{State}
use Rattle.lvm_session.specs.Ends.{CopyLearns, Ends}
use Rattle.lvm_keeps_events.specs.Ends.{EndsMiss, EndsQuit, EndsRead, EndsWrite}
use Rattle.lvm_keeps_events.specs.GroupEnds.{EndsGroup}
use Rattle.lvm_tie.specs.Tied.{Ties}

-- A transfer of a copy that had ended before leaves a tied session tied, where the shelf has whole sectors.
abbrev pub CopyQuitTies : Type 0
CopyQuitTies = (at : ℕ) (ok : Bool) → Ties (λ old new. HasSectors new.device × EndsQuit old new at ok)

-- So does a write that has failed, and the copy with it.
abbrev pub CopyWriteFailTies : Type 0
CopyWriteFailTies = (at : ℕ) → Ties (λ old new. HasSectors new.device × EndsWrite old new at)

-- So does a read that ended well,
abbrev pub CopyReadEndTies : Type 0
CopyReadEndTies = (at : ℕ) → Ties (λ old new. EndsRead old new at)

-- and one that failed, where another source follows, or the copy ends.
abbrev pub CopyMissTies : Type 0
CopyMissTies = (at : ℕ) → Ties (λ old new. EndsMiss old new at)

-- So does a write that ended well: its next track group follows, or its clearing is wanted.
abbrev pub CopyGroupTies : Type 0
CopyGroupTies = (at : ℕ) → Ties (λ old new. HasSectors new.device × EndsGroup old new at)

-- a transfer of the copy that is open has ended, well or badly
pub record EndsOfCopy (old new : State) (at : ℕ) : Type 0 where
  pub ends : Ends old new at
  pub own : ends.row.owner ≡ owner.Copy
  pub learns : CopyLearns old.core at ends.ok ends.buf new.core

-- So does each end of them.
abbrev pub CopyEndTies : Type 0
CopyEndTies = (at : ℕ) → Ties (λ old new. HasSectors new.device × EndsOfCopy old new at)
