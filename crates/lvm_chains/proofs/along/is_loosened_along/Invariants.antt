use Rattle.std.proofs.Common.{◌≡◌, ◌≤◌, ◌/◌, ℕ, true, take}
use Rattle.lvm_vol.specs.May.{is_off, known}
use Rattle.lvm_allowed.specs.Rows.{facts_of}
use Rattle.lvm_chains.specs.Along.{ArePlaces}
use Rattle.lvm_chains.proofs.along.is_loosened_along.Given as goal

abbrev pub invariant-loop-place : goal.invariant-loop-place
invariant-loop-place l = record {
  within : l.place ≤ l.among;
  places : ArePlaces l.index l.vol (l.block.number / 256) l.place l.at;
  same : (run : ℕ) → is_off (known (facts_of run l.asks l.blocks (take l.among l.rows)) l.block.vol l.block.number).mode ≡ true
      → (is_off (known (facts_of run l.asks l.blocks (take l.place l.rows)) l.vol l.block.number).mode ≡ true)
      × ((known (facts_of run l.asks l.blocks (take l.among l.rows)) l.block.vol l.block.number).loose ≡ (known (facts_of run l.asks l.blocks (take l.place l.rows)) l.vol l.block.number).loose);
}

abbrev pub decreases-loop-place : goal.decreases-loop-place
decreases-loop-place l = l.place
