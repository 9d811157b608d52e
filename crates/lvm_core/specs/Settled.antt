-- When a session may commit something.
use Rattle.std.specs.Prelude.{◌≡◌, ◌≢◌, ◌+◌, ◌*◌, ◌^◌, ◌<◌}
use Rattle.lvm_num.specs.Votes.{CanWrite}
use Rattle.lvm_commit.specs.Settling.{many_there}
use Rattle.lvm_session.specs.declared.open.Power.TheVariants as power
use Rattle.lvm_session.specs.State.{Core, is_there}
use Rattle.lvm_core.specs.Sound.{HasNothingUnderWay}

-- A session that has begun and is on, at which nothing is under way and nothing is wanted that isn't committed, and whose members that aren't missing have
-- votes enough to write.
pub record IsSettled (core : Core) : Type 0 where
  pub power : core.power ≡ power.On
  pub quiet : HasNothingUnderWay core
  pub committed : core.status.committed ≡ core.status.wanted
  pub epoch : core.status.stamp.epoch ≢ 0
  pub votes : CanWrite core.descriptor (is_there core)

-- eight numbers are left for the stamps of its records, and two more for each member that isn't missing
abbrev pub HasSpareNumbers : Core → Type 0
HasSpareNumbers core = core.status.stamp.seq + 8 + 2 * many_there core.status < 2 ^ 32
