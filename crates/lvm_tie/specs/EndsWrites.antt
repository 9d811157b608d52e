-- The ends of transfers of requests.
use Rattle.std.specs.Prelude.{◌≡◌, ℕ, true}
use Rattle.lvm_disk.specs.Device.{HasSectors}
use Rattle.lvm_path.specs.Asks.{is_write}
use Rattle.lvm_session.specs.declared.flown.Owner.TheVariants as owner
use Rattle.lvm_session.specs.State.{State}
use Rattle.lvm_session.specs.Ends.{DataLearns, Ends}
use Rattle.lvm_tie.specs.Tied.{Ties}

-- a transfer of a request that writes has ended, well or badly
pub record EndsWriting (old new : State) (at id target : ℕ) : Type 0 where
  pub ends : Ends old new at
  pub own : ends.row.owner ≡ owner.Data id target
  pub learns : DataLearns old.core at id target ends.ok ends.buf new.core
  pub writes : is_write learns.its.request.request.ask ≡ true

-- On a shelf of whole sectors it leaves a tied session tied, with what becomes wanted stale by it, and where the copy that is being brought up ends by it.
abbrev pub WriteEndTies : Type 0
WriteEndTies = (at id target : ℕ) → Ties (λ old new. HasSectors new.device × EndsWriting old new at id target)

-- a transfer of a request has ended, well or badly
pub record EndsOfRequest (old new : State) (at id target : ℕ) : Type 0 where
  pub ends : Ends old new at
  pub own : ends.row.owner ≡ owner.Data id target

-- So it does whether the request reads or writes.
abbrev pub DataEndTies : Type 0
DataEndTies = (at id target : ℕ) → Ties (λ old new. HasSectors new.device × EndsOfRequest old new at id target)
