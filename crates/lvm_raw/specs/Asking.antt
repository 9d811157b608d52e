-- For which ranges of a disk nothing is asked of it.
use Rattle.std.specs.Prelude.{◌≡◌, ◌⊎◌, ◌≤◌, ◌<◌, ◌+◌, ◌*◌, ℕ, length, Some, slice_get}
use Rattle.lvm_num.specs.Geometry.{data_start}
use Rattle.lvm_disk.specs.Device.{Device}
use Rattle.lvm_vol.specs.Log.{Log, spare_entries, spare_bytes}
use Rattle.lvm_raw.specs.declared.fault.RawFault.{RawFault}
use Rattle.lvm_raw.specs.declared.fault.RawFault.TheVariants as fault
use Rattle.lvm_raw.specs.Pieces.{piece_count}

-- the shelf has no such disk
abbrev pub IsNoDisk : Device → ℕ → Type 0
IsNoDisk device disk = length device.sizes ≤ disk

-- the disk has the blocks in its data
pub record IsInData (device : Device) (disk at count : ℕ) : Type 0 where
  pub size : ℕ
  pub is : slice_get device.sizes disk ≡ Some size
  pub low : data_start ≤ at
  pub high : at + count ≤ size

-- it doesn't, and has so many sectors
pub record IsOutsideDisk (device : Device) (disk at count size : ℕ) : Type 0 where
  pub is : slice_get device.sizes disk ≡ Some size
  pub outside : (at < data_start) ⊎ (size < at + count)

-- the history has room for three entries for each piece, and for the blocks
pub record HasRoomForPieces (log : Log) (at count : ℕ) : Type 0 where
  pub entries : 3 * piece_count at count ≤ spare_entries log
  pub bytes : 512 * count ≤ spare_bytes log

-- it hasn't
abbrev pub IsFull : Log → ℕ → ℕ → Type 0
IsFull log at count = (spare_entries log < 3 * piece_count at count) ⊎ (spare_bytes log < 512 * count)

-- why nothing is asked of a disk, if so
abbrev pub IsRejected : Device → Log → ℕ → ℕ → ℕ → RawFault → Type 0
IsRejected device log disk at count (fault.NoDisk d) = (d ≡ disk) × IsNoDisk device disk
IsRejected device log disk at count (fault.OutOfRange size) = IsOutsideDisk device disk at count size
IsRejected device log disk at count fault.HistoryFull = IsInData device disk at count × IsFull log at count
IsRejected device log disk at count other = ⊥

-- nothing is against it
pub record MayAsk (device : Device) (log : Log) (disk at count : ℕ) : Type 0 where
  pub inside : IsInData device disk at count
  pub room : HasRoomForPieces log at count
