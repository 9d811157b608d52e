-- Turns behind the workers of a load.
use Rattle.std.specs.Prelude.{◌≡◌, ◌⊎◌, Bool, true, false}
use Rattle.lvm_disk.specs.Counts.{RoseBy}
use Rattle.lvm_disk.specs.Paths.{Path}
use Rattle.lvm_session.specs.Causes.{is_over}
use Rattle.lvm_session.specs.State.{State}
use Rattle.lvm_driver.specs.Drains.{IsAny, IsDrained, IsTurn}

-- Turns are made until nothing may be made, or the session is over; unless nothing is heard of a transfer a million times.
pub record Settles (first last : State) (waits : Bool) : Type 0 where
  pub turns : Path IsTurn IsAny first last
  pub heard : waits ≡ false → IsDrained last ⊎ (is_over last.core.power ≡ true)
  pub unheard : waits ≡ true → RoseBy 1000000 first.device.counts.waits last.device.counts.waits
