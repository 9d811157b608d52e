-- A session that mkvg or varyon has begun, by what their contracts say: sound with requests too, whatever stands on the disks.
use Rattle.std.specs.Prelude.{ℕ, ◌<◌, ◌^◌, List, []}
use Rattle.lvm_disk.specs.Device.{Device}
use Rattle.lvm_vol.specs.Log.{Log}
use Rattle.lvm_vol.specs.Order.{Ordered}
use Rattle.lvm_status.specs.Members.{HasItsRows}
use Rattle.lvm_commit.specs.Settling.{NoneIsLeft}
use Rattle.lvm_session.specs.State.{State}
use Rattle.lvm_session.specs.Sound.{IsSound}
use Rattle.lvm_session_start.specs.Beginning.{AreFaults}
use Rattle.lvm_handover.specs.passed.Core.{Room, IsSettled, IsSoundAtRest}
use Rattle.lvm_varyon.specs.Varied.{ComesOn}
use Rattle.lvm_group.specs.Made.{IsMade}
use Rattle.lvm_group.specs.NewGroup.{NewGroup}
use Rattle.lvm_handover.specs.passed.Going.{IsStamped}

-- what each history is that was made: its entries are in their order, and their numbers are of four bytes
pub record IsHistory (log : Log) : Type 0 where
  pub ordered : Ordered log.run [] log.facts
  pub few : log.room < 2 ^ 32

-- What both contracts say of a session that has just begun, and what holds of its driver.
pub record HasJustBegun (s : State) : Type 0 where
  pub sound : IsSoundAtRest s
  pub settled : IsSettled s.core
  pub left : NoneIsLeft s.core.descriptor s.core.status
  pub faults : AreFaults s.device s.core.origin.faults

-- it is sound with requests too, its stamps are of some moment, and the status with which it began has a row for exactly the members
pub record Serves (s : State) : Type 0 where
  pub sound : IsSound s
  pub rows : HasItsRows s.core.descriptor s.core.origin.table
  pub stamped : IsStamped s.core.status

-- A session that a varyon has begun after this history is so,
abbrev pub VariedOnBegins : Type 0
VariedOnBegins = (was : Log) (name : List ℕ) (moment : ℕ) (room : Room) (old : Device) (s : State)
    → IsHistory was → ComesOn old s.device was name moment room s.core → HasJustBegun s → Serves s

-- and one that a mkvg has.
abbrev pub MadeBegins : Type 0
MadeBegins = (was : Log) (w : NewGroup) (room : Room) (old : Device) (s : State)
    → IsHistory was → IsMade w room was old s.device s.core → HasJustBegun s → Serves s
