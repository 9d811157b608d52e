use Rattle.std.proofs.Common.{◌≡◌, ℕ, take, drop}
use Rattle.lvm_vol.specs.May.{known}
use Rattle.lvm_allowed.specs.Rows.{facts_of}
use Rattle.lvm_allowed.specs.Seen.{origin_of, seen_of}
use Rattle.lvm_allowed.proofs.values.seen_after.Given as goal

abbrev pub invariant-loop-k : goal.invariant-loop-k
invariant-loop-k l = record {
  followed : l.here ≡ origin_of (drop l.k l.rows) l.block.vol;
  seen : (run : ℕ) → l.seen ≡ seen_of (known (facts_of run l.asks l.blocks (take l.k l.rows)) l.here l.block.number) l.value;
}
