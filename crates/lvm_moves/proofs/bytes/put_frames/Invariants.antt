use Rattle.std.proofs.Common.{◌≡◌, ℕ, ◌<◌, Some, length, slice_get}
use Rattle.lvm_num.specs.declared.record.Kind.TheVariants as kind
use Rattle.lvm_num.specs.Record.{frame}
use Rattle.lvm_moves.proofs.bytes.put_frames.Given as goal

abbrev pub invariant-loop-k : goal.invariant-loop-k
invariant-loop-k l = record {
  number : l.buf.number ≡ l.fn.buf.number;
  long : length l.buf.sectors ≡ 256;
  frames : (i : ℕ) → i < l.k → slice_get l.buf.sectors i ≡ Some (frame kind.Status l.stamp l.content i);
}
