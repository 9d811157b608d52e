use Rattle.std.proofs.Common.{◌≡◌, ◌≤◌, ℕ, take}
use Rattle.lvm_vol.specs.May.{is_off, known}
use Rattle.lvm_allowed.specs.Rows.{facts_of}
use Rattle.lvm_chains.specs.Places.{newest}
use Rattle.lvm_chains.proofs.along.is_off_along.Given as goal

abbrev pub invariant-loop-place : goal.invariant-loop-place
invariant-loop-place l = record {
  within : l.place ≤ l.among;
  newest_is : l.place ≡ newest 4096 l.index.chains l.place;
  same : (run : ℕ) → is_off (known (facts_of run l.asks l.blocks (take l.among l.rows)) l.block.vol l.block.number).mode ≡ is_off (known (facts_of run l.asks l.blocks (take l.place l.rows)) l.vol l.block.number).mode;
}

abbrev pub decreases-loop-place : goal.decreases-loop-place
decreases-loop-place l = l.place
