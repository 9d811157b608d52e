-- The ends of transfers of requests and of the copy that is brought up leave less work.
use Rattle.std.specs.Prelude.{ℕ, Bool}
use Rattle.lvm_keeps_events.specs.Ends.{EndsMiss, EndsQuit, EndsRead, EndsWrite}
use Rattle.lvm_keeps_events.specs.DataEnds.{EndsData}
use Rattle.lvm_keeps_events.specs.GroupEnds.{EndsGroup}
use Rattle.lvm_keeps_events.specs.StatusEnds.{Lowers}

abbrev pub DataEndFalls : Type 0
DataEndFalls = (at id target : ℕ) (ok : Bool) → Lowers (λ old new. EndsData old new at id target ok)

abbrev pub CopyReadEndFalls : Type 0
CopyReadEndFalls = (at : ℕ) → Lowers (λ old new. EndsRead old new at)

abbrev pub CopyReadFailFalls : Type 0
CopyReadFailFalls = (at : ℕ) → Lowers (λ old new. EndsMiss old new at)

abbrev pub CopyWriteEndFalls : Type 0
CopyWriteEndFalls = (at : ℕ) → Lowers (λ old new. EndsGroup old new at)

abbrev pub CopyWriteFailFalls : Type 0
CopyWriteFailFalls = (at : ℕ) → Lowers (λ old new. EndsWrite old new at)

abbrev pub CopyQuitFalls : Type 0
CopyQuitFalls = (at : ℕ) (ok : Bool) → Lowers (λ old new. EndsQuit old new at ok)
