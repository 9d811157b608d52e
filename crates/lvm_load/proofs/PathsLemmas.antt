-- Turns, one after the other.
use Rattle.lvm_disk.specs.Paths.{Path, Here, Then}
use Rattle.lvm_session.specs.State.{State}
use Rattle.lvm_driver.specs.Drains.{IsAny, IsTurn}
use Rattle.lvm_load.proofs.FactsLemmas.{Gains, gains_none, gains_then, turn_gains}

-- no request begins in turns
pub path_gains : (first last : State) → Path IsTurn IsAny first last → Gains 0 first.core.history.facts last.core.history.facts
path_gains first last (Here any) = gains_none first.core.history.facts
path_gains first last (Then {m = mid} path turn any) =
    gains_then 0 0 first.core.history.facts mid.core.history.facts last.core.history.facts (path_gains first mid path) (turn_gains mid last turn.0 turn.1)
