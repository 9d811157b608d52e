use Rattle.std.proofs.Common.{◌≡◌, ◌/◌, ℕ}
use Rattle.lvm_chains.specs.Along.{ArePlaces}
use Rattle.lvm_chains.proofs.OpenLemmas.{IsSearched}
use Rattle.lvm_chains.proofs.along.is_open_along.Given as goal

abbrev pub invariant-loop-place : goal.invariant-loop-place
invariant-loop-place l = record {
  searched : IsSearched l.sought l.asks l.blocks l.block.vol l.block.number l.value l.rows l.among l.place;
  places : ArePlaces l.index l.block.vol (l.block.number / 256) l.place l.at;
}

abbrev pub decreases-loop-place : goal.decreases-loop-place
decreases-loop-place l = l.place
