-- By what disks come to be missing, and the votes to be lost.
use Rattle.std.specs.Prelude.{◌≡◌, ◌⊎◌, ℕ, true}
use Rattle.lvm_disk.specs.Counts.{NoneFalls, Rose}
use Rattle.lvm_session.specs.declared.answers.Turned.{Turned}
use Rattle.lvm_session.specs.Enabled.{is_lost}
use Rattle.lvm_session.specs.Judging.{is_missing}
use Rattle.lvm_session.specs.Sound.{IsSound}
use Rattle.lvm_session.specs.State.{State}
use Rattle.lvm_session.specs.Turns.{TurnMakes}

-- a transfer of the disk has failed between
abbrev pub HasFailedOn : State → State → ℕ → Type 0
HasFailedOn old new disk = Rose (old.device.counts.faults disk) (new.device.counts.faults disk)

-- a disk comes to be missing between them only where a transfer of it has failed
abbrev pub LosesByFaults : State → State → Type 0
LosesByFaults old new = (disk : ℕ) → is_missing new.core disk ≡ true → (is_missing old.core disk ≡ true) ⊎ HasFailedOn old new disk

-- So it is over each turn of a sound session.
abbrev pub TurnsLoseByFaults : Type 0
TurnsLoseByFaults = (old new : State) (answer : Turned) → IsSound old → TurnMakes old new answer → LosesByFaults old new

-- So it is over one behind the other, while no count falls.
abbrev pub LossesJoin : Type 0
LossesJoin = (old mid new : State) → NoneFalls old.device.counts mid.device.counts → NoneFalls mid.device.counts new.device.counts
    → LosesByFaults old mid → LosesByFaults mid new → LosesByFaults old new

-- ---- the votes

-- the votes were lost at first, or a transfer of some disk has failed since
abbrev pub LostForFaults : State → State → Type 0
LostForFaults old new = (is_lost old.core ≡ true) ⊎ ((disk : ℕ) × HasFailedOn old new disk)

-- the votes are lost then for that alone
abbrev pub LosesVotesByFaults : State → State → Type 0
LosesVotesByFaults old new = is_lost new.core ≡ true → LostForFaults old new

-- So it is in a group whose disks come to be missing by faults alone.
abbrev pub VotesGoByFaults : Type 0
VotesGoByFaults = (old new : State) → new.core.descriptor ≡ old.core.descriptor → LosesByFaults old new → LosesVotesByFaults old new
