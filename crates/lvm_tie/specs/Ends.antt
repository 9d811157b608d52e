-- The ends of transfers of reads.
use Rattle.std.specs.Prelude.{◌≡◌, ℕ, false}
use Rattle.lvm_path.specs.Asks.{is_write}
use Rattle.lvm_session.specs.declared.flown.Owner.TheVariants as owner
use Rattle.lvm_session.specs.State.{State}
use Rattle.lvm_session.specs.Ends.{DataLearns, Ends}
use Rattle.lvm_tie.specs.Tied.{Ties}

-- a transfer of a request that reads has ended, well or badly
pub record EndsReading (old new : State) (at id target : ℕ) : Type 0 where
  pub ends : Ends old new at
  pub own : ends.row.owner ≡ owner.Data id target
  pub learns : DataLearns old.core at id target ends.ok ends.buf new.core
  pub reads : is_write learns.its.request.request.ask ≡ false

-- It leaves a tied session tied.
abbrev pub ReadEndTies : Type 0
ReadEndTies = (at id target : ℕ) → Ties (λ old new. EndsReading old new at id target)
