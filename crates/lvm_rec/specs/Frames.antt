-- What the first sector of a slot announces.
use Rattle.std.specs.Prelude.{◌≡◌, ◌≢◌, ℕ, ◌*◌, ◌^◌, ◌<◌, ◌≤◌, List, length, take, drop}
use Rattle.std.specs.Int.{w32, w64, from_be_bytes}
use Rattle.lvm_num.specs.declared.record.Stamp.{Stamp}
use Rattle.lvm_num.specs.declared.record.Kind.{Kind}
use Rattle.lvm_num.specs.Record.{record_sectors, longest_content}

-- the stamp and the length of the content that stand there, which a record of the kind may have and for which there are bytes enough
pub record MayFrame (kind : Kind) (bytes : List ℕ) (stamp : Stamp) (len : ℕ) : Type 0 where
  pub some_epoch : stamp.epoch ≢ 0
  pub epoch : stamp.epoch < 2 ^ 64
  pub some_seq : stamp.seq ≢ 0
  pub seq : stamp.seq < 2 ^ 32
  pub content : len ≤ longest_content kind
  pub there : 512 * record_sectors len ≤ length bytes
  pub epoch_stands : stamp.epoch ≡ from_be_bytes w64 (take 8 (drop 8 bytes))
  pub seq_stands : stamp.seq ≡ from_be_bytes w32 (take 4 (drop 4 bytes))
  pub len_stands : len ≡ from_be_bytes w32 (take 4 (drop 16 bytes))
