use Rattle.std.proofs.Common.{◌≡◌, ◌≤◌, ℕ, length, take}
use Rattle.lvm_vol.specs.May.{is_off, known}
use Rattle.lvm_allowed.specs.Rows.{facts_of}
use Rattle.lvm_allowed.proofs.recent.is_off_after.Given as goal

abbrev pub invariant-loop-k : goal.invariant-loop-k
invariant-loop-k l = record {
  within : l.k ≤ length l.rows;
  same : (run : ℕ) → is_off (known (facts_of run l.asks l.blocks l.rows) l.block.vol l.block.number).mode ≡ is_off (known (facts_of run l.asks l.blocks (take l.k l.rows)) l.vol l.block.number).mode;
}

abbrev pub decreases-loop-k : goal.decreases-loop-k
decreases-loop-k l = l.k
