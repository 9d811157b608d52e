use Rattle.std.proofs.Common.{◌≡◌, ◌≤◌, ◌||◌, ◌/◌, ℕ, length, take, max}
use Rattle.lvm_vol.specs.May.{known}
use Rattle.lvm_allowed.specs.Rows.{facts_of}
use Rattle.lvm_allowed.specs.Seen.{seen_of}
use Rattle.lvm_allowed.specs.Told.{allows}
use Rattle.lvm_chains.specs.Along.{ArePlaces}
use Rattle.lvm_chains.proofs.along.may_have_along.Given as goal

abbrev pub invariant-loop-place : goal.invariant-loop-place
invariant-loop-place l = record {
  within : l.place ≤ length l.rows;
  places : ArePlaces l.index l.vol (l.block.number / 256) l.place l.places;
  newer : l.place ≡ max l.places.own l.places.shaping;
  told : (run : ℕ) → allows (seen_of (known (facts_of run l.asks l.blocks l.rows) l.block.vol l.block.number) l.value)
      ≡ (allows (seen_of (known (facts_of run l.asks l.blocks (take l.place l.rows)) l.vol l.block.number) l.value) || l.also);
}

abbrev pub decreases-loop-place : goal.decreases-loop-place
decreases-loop-place l = l.place
