-- The calls by which a copy is opened, begins to move, and is closed.
use Rattle.std.specs.Prelude.{ℕ, List, Result}
use Rattle.lvm_vol.specs.Facts.{Fact}
use Rattle.lvm_disk.specs.Counts.{Counts}
use Rattle.lvm_num.specs.declared.place.Pp.{Pp}
use Rattle.lvm_session.specs.declared.answers.CopyFault.{CopyFault}
use Rattle.lvm_session.specs.declared.answers.OpenFault.{OpenFault}
use Rattle.lvm_session.specs.Calls.{Closes, OpenGives, OpenMoveGives}
use Rattle.lvm_session.specs.State.{Core, State, state}
use Rattle.lvm_session.specs.Sound.{IsSound}
use Rattle.lvm_tie.specs.Tied.{IsTied}

-- A copy that is opened, by whatever counts of faults, or isn't, leaves a tied session tied.
abbrev pub OpenTies : Type 0
OpenTies =
    (past : List Fact) (s : State) (new : Core) (counts : Counts) (lv lp number : ℕ) (answer : Result (Unit {0}) CopyFault)
    → IsTied past s → IsSound (state s.device new) → OpenGives counts s.core new lv lp number answer → IsTied past (state s.device new)

-- So does one that begins to move, or doesn't.
abbrev pub OpenMoveTies : Type 0
OpenMoveTies =
    (past : List Fact) (s : State) (new : Core) (counts : Counts) (lv lp number : ℕ) (to : Pp) (answer : Result (Unit {0}) OpenFault)
    → IsTied past s → IsSound (state s.device new) → OpenMoveGives counts s.core new lv lp number to answer → IsTied past (state s.device new)

-- So does one that is closed, also a move.
abbrev pub CloseTies : Type 0
CloseTies = (past : List Fact) (s : State) (new : Core) → IsTied past s → IsSound (state s.device new) → Closes s.core new → IsTied past (state s.device new)
