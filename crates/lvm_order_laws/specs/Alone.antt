-- Shelves that do nothing but what they are ordered.
use Rattle.std.specs.Prelude.{◌≡◌, ◌-◌, ◌^◌, ◌<◌, ℕ, false, Some, option_map, slice_index_or}
use Rattle.lvm_disk.specs.Counts.{Counts}
use Rattle.lvm_disk.specs.Device.{Ordered, Device}
use Rattle.lvm_disk.specs.Paths.{DeviceStep, Path}

-- it tells what orders made of it, and its power was cut as often as it was ordered
pub record HeedsAlone (device : Device) : Type 0 where
  pub ordered : Ordered
  pub told : device.orders.alone ≡ Some ordered
  pub cuts : device.counts.cuts ≡ ordered.cuts

-- that stays so
abbrev pub AloneLaw : Type 0
AloneLaw = (old new : Device) → DeviceStep old new → HeedsAlone old → HeedsAlone new

-- so it is at each moment of any steps
abbrev pub AlwaysLaw : Type 0
AlwaysLaw = (first last : Device) → Path DeviceStep (λ d. Unit {0}) first last → HeedsAlone first → Path DeviceStep HeedsAlone first last

-- nor is any disk ordered to fail; and neither cuts nor orders to fail were counted up to the last value
pub record IsWell (device : Device) : Type 0 where
  pub heeds : HeedsAlone device
  pub well : (disk : ℕ) → slice_index_or heeds.ordered.failing disk false ≡ false
  pub few_cuts : device.counts.cuts < 2 ^ 64 - 1
  pub few_fails : heeds.ordered.fails < 2 ^ 64 - 1

-- no disk was ordered to fail between, nor the power to be cut while it was on; a disk may have been healed
pub record OrdersNoHarm (old new : Device) : Type 0 where
  pub cuts : option_map (λ (o : Ordered). o.cuts) new.orders.alone ≡ option_map (λ (o : Ordered). o.cuts) old.orders.alone
  pub fails : option_map (λ (o : Ordered). o.fails) new.orders.alone ≡ option_map (λ (o : Ordered). o.fails) old.orders.alone

-- no transfer failed, the power wasn't cut, and no reap ended nothing
pub record NothingFailed (old new : Counts) : Type 0 where
  pub misses : (disk : ℕ) → new.misses disk ≡ old.misses disk
  pub faults : (disk : ℕ) → new.faults disk ≡ old.faults disk
  pub cuts : new.cuts ≡ old.cuts
  pub waits : new.waits ≡ old.waits

-- so it is over any steps among which no such order is made
abbrev pub WellLaw : Type 0
WellLaw = (first last : Device) → Path DeviceStep (λ d. Unit {0}) first last → IsWell first → OrdersNoHarm first last → NothingFailed first.counts last.counts

-- no transfer has failed ever, the power was never cut, and no reap has ended nothing
pub record NothingCounted (counts : Counts) : Type 0 where
  pub misses : (disk : ℕ) → counts.misses disk ≡ 0
  pub faults : (disk : ℕ) → counts.faults disk ≡ 0
  pub cuts : counts.cuts ≡ 0
  pub waits : counts.waits ≡ 0

-- a shelf that does nothing by itself, and over which nothing has happened yet
pub record IsUnharmed (device : Device) : Type 0 where
  pub well : IsWell device
  pub counted : NothingCounted device.counts

-- it stays so too
abbrev pub UnharmedLaw : Type 0
UnharmedLaw = (first last : Device) → Path DeviceStep (λ d. Unit {0}) first last → IsUnharmed first → OrdersNoHarm first last → IsUnharmed last
