-- The starts of writes of records.
use Rattle.std.specs.Prelude.{ℕ, List}
use Rattle.lvm_num.specs.Status.{IsValidStatus}
use Rattle.lvm_vol.specs.Facts.{Fact}
use Rattle.lvm_session.specs.Events.{StartsNote, StartsStatus}
use Rattle.lvm_session.specs.State.{State}
use Rattle.lvm_session.specs.Sound.{IsSound}
use Rattle.lvm_tie.specs.Tied.{IsTied, Ties}

-- The write of a note that starts leaves a tied session tied.
abbrev pub NoteStartTies : Type 0
NoteStartTies = (place disk : ℕ) → Ties (λ old new. StartsNote old new place disk)

-- So does a write of the status that starts, the first of an update or a further one, where what is wanted is a status that a record can have.
abbrev pub StatusStartTies : Type 0
StatusStartTies = (past : List Fact) (old new : State) → IsTied past old → IsSound new → IsValidStatus old.core.status.wanted → StartsStatus old new → IsTied past new
