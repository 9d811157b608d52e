use Rattle.std.proofs.Common.{◌≡◌, ◌+◌, ◌≤◌, ◌++◌, take, length, vec_len, vec_capacity}
use Rattle.lvm_raw.proofs.blocks.keep_front.Given as goal

abbrev pub invariant-loop-k : goal.invariant-loop-k
invariant-loop-k l = record {
  items : l.blocks.items ≡ l.fn.blocks.items ++ take l.k l.fn.buf.sectors;
  long : l.k ≤ length l.fn.buf.sectors;
  len : vec_len l.blocks ≡ vec_len l.fn.blocks + l.k;
  room : vec_capacity l.fn.blocks ≤ vec_capacity l.blocks;
}
