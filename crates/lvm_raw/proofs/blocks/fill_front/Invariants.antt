use Rattle.std.proofs.Common.{◌≡◌, length, take}
use Rattle.lvm_raw.specs.OnePiece.{AreFilled}
use Rattle.lvm_raw.proofs.blocks.fill_front.Given as goal

abbrev pub invariant-loop-k : goal.invariant-loop-k
invariant-loop-k l = record {
  filled : AreFilled l.fn.word (take l.k l.buf.sectors);
  long : length (take l.k l.buf.sectors) ≡ l.k;
}
