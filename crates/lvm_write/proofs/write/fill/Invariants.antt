use Rattle.std.proofs.Common.{◌≡◌, ℕ, ◌+◌, ◌<◌, Some, slice_get}
use Rattle.lvm_num.specs.Record.{frame}
use Rattle.lvm_write.proofs.write.fill.Given as goal

abbrev pub invariant-loop-k : goal.invariant-loop-k
invariant-loop-k l = record {
  number : l.buf.number ≡ l.fn.buf.number;
  frames : (i : ℕ) → i < l.k → slice_get l.buf.sectors i ≡ Some (frame l.one.kind l.one.stamp l.one.content.now (l.first + i));
}
