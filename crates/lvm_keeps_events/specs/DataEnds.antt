-- The ends of transfers of requests leave a session sound.
use Rattle.std.specs.Prelude.{◌≡◌, ℕ, Bool}
use Rattle.lvm_num.specs.Buffer.{Buffer}
use Rattle.lvm_session.specs.declared.flown.Flown.{Flown}
use Rattle.lvm_session.specs.declared.flown.Owner.TheVariants as owner
use Rattle.lvm_session.specs.State.{State}
use Rattle.lvm_session.specs.Ends.{DataLearns, Returns}
use Rattle.lvm_keeps.specs.Keeps.{KeepsSound}

-- the transfer of a target of a request has ended, well or badly
pub record EndsData (old new : State) (at id target : ℕ) (ok : Bool) : Type 0 where
  pub row : Flown
  pub buf : Buffer
  pub own : row.owner ≡ owner.Data id target
  pub returns : Returns old new at row ok buf
  pub learns : DataLearns old.core at id target ok buf new.core

abbrev pub DataEndKeeps : Type 0
DataEndKeeps = (at id target : ℕ) (ok : Bool) → KeepsSound (λ old new. EndsData old new at id target ok)
