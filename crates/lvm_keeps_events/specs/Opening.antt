-- A copy is opened, or begins to move, as code opens it.
use Rattle.std.specs.Prelude.{◌≡◌, ◌&&◌, ◌==◌, ℕ, Result, Some, false, not}
use Rattle.std.specs.List.{list_any}
use Rattle.lvm_num.specs.declared.descriptor.Descriptor.{Descriptor}
use Rattle.lvm_num.specs.declared.place.Pp.{Pp}
use Rattle.lvm_num.specs.Descriptor.{is_pp}
use Rattle.lvm_session.specs.State.{Core, State, state}
use Rattle.lvm_session.specs.declared.answers.CopyFault.{CopyFault}
use Rattle.lvm_session.specs.declared.answers.OpenFault.{OpenFault}
use Rattle.lvm_session.specs.Judging.{copies_in}
use Rattle.lvm_session.specs.Calls.{OpenGives, OpenMoveGives, copy_at}
use Rattle.lvm_session.specs.Asking.{IsAwake}
use Rattle.lvm_session.specs.Sound.{IsSound}
use Rattle.lvm_calls.specs.Opening.{counts_seen}

-- A copy that is opened with the faults of the disks that are on the shelf, and of the others those when the session began, leaves the session sound.
abbrev pub SeenOpenKeeps : Type 0
SeenOpenKeeps = (s : State) (new : Core) (lv lp number : ℕ) (answer : Result (Unit {0}) CopyFault)
    → IsSound s → IsAwake s.core → OpenGives (counts_seen s.device s.core) s.core new lv lp number answer → IsSound (state s.device new)

-- No copy of the logical partition but the one of this number stands on the disk of this partition.
abbrev pub IsApart : Descriptor → ℕ → ℕ → ℕ → Pp → Type 0
IsApart d lv lp number to = (from : Pp) → copy_at (copies_in d lv lp) number ≡ Some from → list_any (λ (p : Pp). not (is_pp p from) && p.disk == to.disk) (copies_in d lv lp) ≡ false

-- So does a copy that begins to move to a disk on which no other copy of its logical partition stands.
abbrev pub OpenMoveKeeps : Type 0
OpenMoveKeeps = (s : State) (new : Core) (lv lp number : ℕ) (to : Pp) (answer : Result (Unit {0}) OpenFault)
    → IsSound s → IsAwake s.core → IsApart s.core.descriptor lv lp number to → OpenMoveGives (counts_seen s.device s.core) s.core new lv lp number to answer → IsSound (state s.device new)
