use Rattle.std.proofs.Common.{◌≡◌, length, take, drop}
use Rattle.lvm_vol.specs.Log.{blocks_of}
use Rattle.lvm_ranges.proofs.reading.read_blocks.Given as goal

abbrev pub invariant-loop-k : goal.invariant-loop-k
invariant-loop-k l = record {
  items : l.blocks.items ≡ take l.k (drop l.asked.place (blocks_of l.history.facts));
  long : length l.blocks.items ≡ l.k;
}
