-- When the targets of requests were chosen, by the faults of their disks that each keeps.
use Rattle.std.specs.Prelude.{◌≤◌, ℕ}
use Rattle.std.specs.List.{AllByRecursion}
use Rattle.lvm_path.specs.declared.target.Target.{Target}
use Rattle.lvm_session.specs.declared.answers.Turned.{Turned}
use Rattle.lvm_session.specs.declared.open.Open.{Open}
use Rattle.lvm_session.specs.State.{Core, State}
use Rattle.lvm_session.specs.Turns.{TurnMakes}

-- each of its targets was chosen once its disk had at least these faults
abbrev pub AreSince : (ℕ → ℕ) → Open → Type 0
AreSince faults o = AllByRecursion (λ (t : Target). faults t.pp.disk ≤ t.faults) o.request.targets.items

-- so were those of each request from this number on
abbrev pub AreAllSince : (ℕ → ℕ) → ℕ → Core → Type 0
AreAllSince faults from core = AllByRecursion (λ (o : Open). from ≤ o.request.id → AreSince faults o) core.requests

-- A turn chooses targets by no fewer faults than their disks had before it: where none was chosen before faults that the disks had at first, none is behind it.
abbrev pub TurnChoosesSince : Type 0
TurnChoosesSince = (old new : State) (answer : Turned) → TurnMakes old new answer
    → (faults : ℕ → ℕ) (from : ℕ) → ((disk : ℕ) → faults disk ≤ old.device.counts.faults disk) → AreAllSince faults from old.core → AreAllSince faults from new.core
