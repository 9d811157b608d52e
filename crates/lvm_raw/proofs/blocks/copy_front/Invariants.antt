use Rattle.std.proofs.Common.{◌≡◌, ◌*◌, ◌≤◌, length, take, vec_len, vec_capacity}
use Rattle.std.specs.Simd.{first_chunks}
use Rattle.lvm_raw.proofs.blocks.copy_front.Given as goal

abbrev pub invariant-loop-k : goal.invariant-loop-k
invariant-loop-k l = record {
  blocks : first_chunks 512 l.k l.bytes.items ≡ take l.k l.fn.buf.sectors;
  size : length l.bytes.items ≡ 512 * l.k;
  len : vec_len l.bytes ≡ 512 * l.k;
  long : l.k ≤ length l.fn.buf.sectors;
  room : 131072 ≤ vec_capacity l.bytes;
}
