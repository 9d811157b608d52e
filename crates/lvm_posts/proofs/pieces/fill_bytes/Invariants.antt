use Rattle.std.proofs.Common.{◌≡◌, ◌*◌, ◌≤◌, length, vec_len, vec_capacity}
use Rattle.lvm_posts.specs.Pieces.{filled}
use Rattle.lvm_posts.proofs.pieces.fill_bytes.Given as goal

abbrev pub invariant-loop-k : goal.invariant-loop-k
invariant-loop-k l = record {
  filled : l.bytes.items ≡ filled l.fn.word l.fn.skip l.k;
  size : length l.bytes.items ≡ 512 * l.k;
  len : vec_len l.bytes ≡ 512 * l.k;
  room : 131072 ≤ vec_capacity l.bytes;
}
