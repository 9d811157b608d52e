-- What is kept while a piece of a disk in no group is read or written.
use Rattle.std.specs.Prelude.{◌≡◌, ◌≤◌, ◌-◌, ℕ, List, true, false}
use Rattle.lvm_disk.specs.Counts.{Rose, RoseAt, RoseBy, Counts}
use Rattle.lvm_disk.specs.Device.{Device, IsReady}
use Rattle.lvm_vol.specs.Facts.{Fact}
use Rattle.lvm_vol.specs.Legal.{IsLater}
pub use Rattle.lvm_vol.specs.Log.{HaveAllLanded}
use Rattle.lvm_kept.specs.Moments.{Moment, StaysCalm}
use Rattle.lvm_steps.specs.Moments.{Keeps}
use Rattle.lvm_steps.specs.Requests.{IsInNoGroup}
use Rattle.lvm_steps.specs.Behind.{StampsAreEarlier}
use Rattle.lvm_transfer.specs.declared.moves.Moved.{Moved}
use Rattle.lvm_transfer.specs.declared.moves.Moved.TheVariants as moved
use Rattle.lvm_raw.specs.Requests.{IsHeard}

-- The disks are as large as before, arrangements as they were, and patience was lost by answers that nothing has ended.
pub record KeepsArrangements (before after : ℕ) (old new : Device) : Type 0 where
  pub sizes : new.sizes ≡ old.sizes
  pub arranges : new.arranges ≡ old.arranges
  pub orders : new.orders ≡ old.orders
  pub falls : after ≤ before
  pub waited : RoseBy (before - after) old.counts.waits new.counts.waits

-- what stood on the disks from before a moment still does
abbrev pub KeepsOlder : Device → Device → Type 0
KeepsOlder old new = (m : ℕ) → StampsAreEarlier m old → StampsAreEarlier m new

-- no group is varied on
abbrev pub NoneComesOn : List Fact → List Fact → Type 0
NoneComesOn old new = (m : ℕ) → IsLater old m → IsLater new m

-- what has risen where a transfer of data ended so: the faults of its disk, the cuts, or the waits as far as patience went
abbrev pub MoveRose : ℕ → ℕ → Counts → Counts → Moved → Type 0
MoveRose disk patience old new (moved.Done back) = Unit {0}
MoveRose disk patience old new (moved.Failed back) = RoseAt disk old.faults new.faults
MoveRose disk patience old new (moved.Dark started) = Rose old.cuts new.cuts
MoveRose disk patience old new moved.Stuck = RoseBy patience old.waits new.waits

-- A request on a disk in no group: at each moment the history is legal and each crash image kept with it, and the disk stays in none.
pub record PieceKeeps (run disk before after : ℕ) (old new : Moment) (how : Moved) : Type 0 where
  pub keeps : Keeps run old new
  pub calm : IsHeard how → StaysCalm old new
  pub none : IsInNoGroup new.device disk
  pub behind : KeepsOlder old.device new.device
  pub shelf : KeepsArrangements before after old.device new.device
  pub power : new.device.power ≡ true
  pub ready : IsHeard how → IsReady new.device
  pub landed : IsHeard how → HaveAllLanded old.facts → HaveAllLanded new.facts
  pub later : NoneComesOn old.facts new.facts
  pub cause : MoveRose disk before old.device.counts new.device.counts how
