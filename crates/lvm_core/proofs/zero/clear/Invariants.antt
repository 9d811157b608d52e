use Rattle.std.proofs.Common.{◌≡◌, ℕ, ◌<◌, Some, slice_get}
use Rattle.lvm_num.specs.Buffer.{zero_sector}
use Rattle.lvm_core.proofs.zero.clear.Given as goal

abbrev pub invariant-loop-k : goal.invariant-loop-k
invariant-loop-k l = record {
  number : l.buf.number ≡ l.fn.buf.number;
  zeros : (i : ℕ) → i < l.k → slice_get l.buf.sectors i ≡ Some zero_sector;
}
