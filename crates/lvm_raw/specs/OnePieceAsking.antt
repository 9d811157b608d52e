-- What a piece of a disk in no group needs, and which room of the history it takes.
use Rattle.std.specs.Prelude.{◌≡◌, ◌≤◌, ◌<◌, ◌+◌, ◌*◌, ◌%◌, ◌^◌, ℕ}
use Rattle.lvm_num.specs.Geometry.{data_start}
use Rattle.lvm_disk.specs.Device.{Device}
use Rattle.lvm_disk.specs.Steps.{IsRange}
use Rattle.lvm_vol.specs.Log.{Log, spare_entries, spare_bytes}
use Rattle.lvm_steps.specs.Requests.{IsInNoGroup}
use Rattle.lvm_transfer.specs.declared.moves.Moved.{Moved}
use Rattle.lvm_raw.specs.Requests.{WasAnswered}

-- It may be asked for: the disk is in no group and has the blocks in its data, they lie in one run of 256, and the history has room for a request with their bytes.
pub record MayAskPiece (device : Device) (log : Log) (disk from count : ℕ) : Type 0 where
  pub none : IsInNoGroup device disk
  pub range : IsRange device disk from count
  pub area : data_start ≤ from
  pub last : from + count < 2 ^ 64
  pub group : from % 256 + count ≤ 256
  pub entries : 3 ≤ spare_entries log
  pub bytes : 512 * count ≤ spare_bytes log

-- The history is one of the same run with the same room, of which a piece that the disk answered has taken three entries and the bytes of its blocks.
pub record TakesRoom (count : ℕ) (old new : Log) (how : Moved) : Type 0 where
  pub rooms : new ≡ record old { facts = new.facts }
  pub entries : WasAnswered how → spare_entries new + 3 ≡ spare_entries old
  pub bytes : WasAnswered how → spare_bytes new + 512 * count ≡ spare_bytes old
