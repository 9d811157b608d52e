-- One transfer on a shelf at which nothing else is out.
use Rattle.std.specs.Prelude.{◌≡◌, ◌+◌, ◌-◌, ◌≤◌, ℕ, [], Bool, true, false}
use Rattle.lvm_disk.specs.passed.Num.{Buffer}
use Rattle.lvm_disk.specs.Counts.{RoseBy}
use Rattle.lvm_disk.specs.Device.{Flight, Device, IsReady}
use Rattle.lvm_disk.specs.Paths.{DeviceStep, Started, WasCut, Ended, Broke, Waited, Freed, Lit, Arranged}
use Rattle.lvm_disk.specs.Steps.{Starts, Cuts, EndsDone, EndsFailed}
use Rattle.lvm_transfer.specs.declared.moves.Moved.{Moved}
use Rattle.lvm_transfer.specs.declared.moves.Moved.TheVariants as moved

-- the flight of a transfer
abbrev pub flight_of : ℕ → Bool → ℕ → ℕ → ℕ → Buffer → Flight
flight_of ticket write disk first count buf = record { ticket = ticket; disk = disk; first = first; count = count; write = write; buf = buf }

-- nothing happened but answers that nothing has ended
pub record WaitsOnly (old now : Device) : Type 0 where
  pub later : old.counts.waits ≤ now.counts.waits
  pub now_is : now ≡ record old { counts = record old.counts { waits = now.counts.waits } }

-- the flight was started, and is waited for
pub record IsOut (old now : Device) (f : Flight) : Type 0 where
  pub begun : Device
  pub starts : Starts old begun f
  pub waits : WaitsOnly begun now

-- How the one flight that is out ended, where so many answers were borne that nothing has; after Dark the power is off.
abbrev pub FinishGives : ℕ → Device → Device → Flight → Moved → Type 0
FinishGives patience old new f (moved.Done back) = (now : Device) × WaitsOnly old now × EndsDone now new f.ticket back
FinishGives patience old new f (moved.Failed back) = (now : Device) × WaitsOnly old now × EndsFailed now new f.ticket back
FinishGives patience old new f (moved.Dark started) = (started ≡ true) × ((now : Device) × WaitsOnly old now × Cuts now new)
FinishGives patience old new f moved.Stuck = WaitsOnly old new × RoseBy patience old.counts.waits new.counts.waits

-- How a transfer ended; after Dark the power is off, and the mark says whether it was started
abbrev pub TransferGives : ℕ → Device → Device → Flight → Moved → Type 0
TransferGives patience old new f (moved.Done back) = (now : Device) × IsOut old now f × EndsDone now new f.ticket back
TransferGives patience old new f (moved.Failed back) = (now : Device) × IsOut old now f × EndsFailed now new f.ticket back
TransferGives patience old new f (moved.Dark true) = (now : Device) × IsOut old now f × Cuts now new
TransferGives patience old new f (moved.Dark false) = Cuts old new
TransferGives patience old new f moved.Stuck = IsOut old new f × RoseBy patience old.counts.waits new.counts.waits

-- nothing is out afterwards, but where nothing was heard of the transfer
abbrev pub Rests : Device → Moved → Type 0
Rests new (moved.Done back) = IsReady new
Rests new (moved.Failed back) = IsReady new
Rests new (moved.Dark started) = (new.flights ≡ []) × (new.power ≡ false)
Rests new moved.Stuck = Unit {0}

-- ---- what it costs

-- an answer that nothing has ended costs one of the patience, and any other step nothing
abbrev pub cost_of : {old new : Device} → DeviceStep old new → ℕ
cost_of (Started f starts) = 0
cost_of (WasCut cuts) = 0
cost_of (Ended ticket buf ends) = 0
cost_of (Broke ticket buf ends) = 0
cost_of (Waited waits) = 1
cost_of (Freed buf gives) = 0
cost_of (Lit still none lights) = 0
cost_of (Arranged what arranges) = 0

-- steps at so much patience, of which so much is left
pub data StepsWhile (patience : ℕ) (first : Device) : ℕ → Device → Type 0 where
  NoStep : StepsWhile patience first patience first
  OneStep : {left less : ℕ} {old new : Device} → StepsWhile patience first left old → (step : DeviceStep old new) → left ≡ less + cost_of step → StepsWhile patience first less new

-- the patience falls by the answers that nothing has ended, and by no other step
pub record Costs (before after : ℕ) (old new : Device) : Type 0 where
  pub falls : after ≤ before
  pub waited : RoseBy (before - after) old.counts.waits new.counts.waits
  pub steps : StepsWhile before old after new

-- ---- the power

-- the buffers that a cut gave up are taken back, and the power is on
abbrev pub Relights : Device → Device → Type 0
Relights old new = new ≡ record old { freed = []; power = true }
