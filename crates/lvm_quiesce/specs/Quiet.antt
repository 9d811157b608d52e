-- A command that goes on once the transfers of before have ended.
use Rattle.std.specs.Prelude.{ℕ}
use Rattle.lvm_disk.specs.Device.{Device}
use Rattle.lvm_write.specs.Parts.{Spends}
use Rattle.lvm_quiesce.specs.Ends.{Quiesces}

-- All transfers that were out have ended, so much patience is left, and a command goes on from there.
pub record OnceQuiet (patience : ℕ) (old : Device) (Goes : ℕ → Device → Type 0) : Type 0 where
  pub left : ℕ
  pub mid : Device
  pub quiesces : Quiesces old mid
  pub spends : Spends patience left old mid
  pub goes : Goes left mid
