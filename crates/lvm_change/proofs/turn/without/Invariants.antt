use Rattle.std.proofs.Common.{◌≡◌, ℕ, ◌<◌, ◌&&◌, not}
use Rattle.std.specs.Prelude.{nat_lt, IsTrue}
use Rattle.lvm_num.specs.Disks.{has}
use Rattle.lvm_change.proofs.turn.without.Given as goal

abbrev pub invariant-loop-disk : goal.invariant-loop-disk
invariant-loop-disk l = record {
  left : (k : ℕ) → has l.left k ≡ (has l.fn.disks k && not (has l.others k && nat_lt k l.disk));
  few : 0 < l.disk → (k : ℕ) → IsTrue (has l.others k) → k < 128;
}
