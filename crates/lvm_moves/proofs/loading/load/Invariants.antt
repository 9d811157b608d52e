use Rattle.std.proofs.Common.{◌≡◌, ◌<◌, ◌+◌, ℕ, length, slice_get}
use Rattle.lvm_vol.specs.Log.{blocks_of}
use Rattle.lvm_moves.proofs.loading.load.Given as goal

abbrev pub invariant-loop-k : goal.invariant-loop-k
invariant-loop-k l = record {
  number : l.buf.number ≡ l.initial.buf.number;
  long : length l.buf.sectors ≡ 256;
  blocks : (k : ℕ) → k < l.k → slice_get l.buf.sectors k ≡ slice_get (blocks_of l.history.facts) (l.place + k);
}
