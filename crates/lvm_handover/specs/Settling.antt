-- A session of requests at which nothing is under way: commands on its group may follow.
use Rattle.std.specs.Prelude.{◌≡◌, ◌≢◌, []}
use Rattle.lvm_session.specs.State.{State}
use Rattle.lvm_session.specs.Sound.{IsSound}
use Rattle.lvm_handover.specs.passed.Core.{HasNoneOpen, HasNothingUnderWay}
use Rattle.lvm_handover.specs.passed.Driver.{IsDrained}

-- Nothing is left to be made of it, neither a request nor a copy is open, and the epoch of its stamps is some moment.
pub record MayHandOver (s : State) : Type 0 where
  pub drained : IsDrained s
  pub none : HasNoneOpen s.core
  pub epoch : s.core.status.stamp.epoch ≢ 0

-- Then nothing is under way, no transfer is out, and what is wanted is committed.
abbrev pub DrainedRests : Type 0
DrainedRests = (s : State) → IsSound s → IsDrained s → HasNoneOpen s.core
    → HasNothingUnderWay s.core × (s.core.flying ≡ []) × (s.core.status.committed ≡ s.core.status.wanted)
