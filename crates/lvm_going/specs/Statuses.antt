-- What is asked of a session's status beside its soundness.
use Rattle.std.specs.Prelude.{◌≡◌, ◌≢◌, IfSome, ◌^◌, ◌<◌, Some}
use Rattle.lvm_num.specs.declared.status.Status.{Status}
use Rattle.lvm_num.specs.Status.{IsValidStatus}
use Rattle.lvm_status.specs.Update.{Stored}

-- what is wanted, and what is in flight, is a status that a record can have
pub record AreValid (status : Stored) : Type 0 where
  pub wanted : IsValidStatus status.wanted
  pub in_flight : IfSome status.in_flight IsValidStatus

-- Its stamp is of an epoch of eight bytes that isn't 0, and an update in flight has a number that isn't 0.
pub record IsStamped (status : Stored) : Type 0 where
  pub some_epoch : status.stamp.epoch ≢ 0
  pub epoch : status.stamp.epoch < 2 ^ 64
  pub begun : (u : Status) → status.in_flight ≡ Some u → status.stamp.seq ≢ 0
