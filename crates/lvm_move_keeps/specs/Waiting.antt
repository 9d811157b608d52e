-- Requests that wait for admission, or have landed, while a descriptor is committed.
use Rattle.std.specs.Prelude.{◌≡◌, true, List}
use Rattle.std.specs.List.{AllByRecursion}
use Rattle.lvm_path.specs.declared.request.Phase.TheVariants as phase
use Rattle.lvm_session.specs.declared.open.Open.{Open}
use Rattle.lvm_session.specs.Judging.{IsWithinVolume, is_waiting}
use Rattle.lvm_session.specs.Requests.{IsOpenOne}
use Rattle.lvm_session.specs.State.{Core}

-- it isn't admitted yet, unless it has landed
abbrev pub IsUnadmitted : Open → Type 0
IsUnadmitted o = is_waiting o ≡ true → o.request.phase ≡ phase.Held

-- Each such request names no place: it stands in any session as well whose descriptor has its range.
abbrev pub WaitingStays : Type 0
WaitingStays = (old new : Core) (requests : List Open) → AllByRecursion (IsOpenOne old) requests → AllByRecursion IsUnadmitted requests
    → AllByRecursion (λ (o : Open). IsWithinVolume new.descriptor o.request.ask) requests → AllByRecursion (IsOpenOne new) requests
