use Rattle.std.proofs.Common.{◌≡◌, ℕ, ◌<◌, false}
use Rattle.std.specs.Prelude.{IsTrue}
use Rattle.lvm_num.specs.Disks.{has}
use Rattle.lvm_num.proofs.disks.DiskSet.lowest.Given as goal

abbrev pub invariant-loop-disk : goal.invariant-loop-disk
invariant-loop-disk l = record {
  below : (k : ℕ) → k < l.disk → has l.self k ≡ false;
  few : 0 < l.disk → (k : ℕ) → IsTrue (has l.self k) → k < 128;
}
