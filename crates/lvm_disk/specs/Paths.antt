-- Runs of steps in which something holds at each moment.
use Rattle.std.specs.Prelude.{◌≡◌, [], ℕ, Some}
use Rattle.lvm_num.specs.Buffer.{Buffer}
use Rattle.lvm_disk.specs.declared.shelf.Arrange.{Arrange}
use Rattle.lvm_disk.specs.Device.{Flight, Device}
use Rattle.lvm_disk.specs.Steps.{Starts, Cuts, EndsDone, EndsFailed, Waits, FreedGives, Lights, Arranges}

-- One step of a shelf, whichever call made it. A call that finds the power off makes none.
pub data DeviceStep (old new : Device) : Type 0 where
  Started : (f : Flight) → Starts old new f → DeviceStep old new
  WasCut : Cuts old new → DeviceStep old new
  Ended : (ticket : ℕ) (buf : Buffer) → EndsDone old new ticket buf → DeviceStep old new
  Broke : (ticket : ℕ) (buf : Buffer) → EndsFailed old new ticket buf → DeviceStep old new
  Waited : Waits old new → DeviceStep old new
  Freed : (buf : Buffer) → FreedGives old new (Some buf) → DeviceStep old new
  Lit : old.flights ≡ [] → old.freed ≡ [] → Lights old new → DeviceStep old new
  Arranged : (what : Arrange) → Arranges old new what → DeviceStep old new

-- P holds at each moment from the first to the last, each one step after the one before
pub data Path {A : Type 0} (Next : A → A → Type 0) (P : A → Type 0) (first : A) : A → Type 0 where
  Here : P first → Path Next P first first
  Then : {m n : A} → Path Next P first m → Next m n → P n → Path Next P first n
