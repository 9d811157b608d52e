use Rattle.std.proofs.Common.{◌≡◌, ◌≤◌, ◌<◌, ◌-◌, ℕ, Some, length}
use Rattle.lvm_load.specs.Weaving.{open_of}
use Rattle.lvm_load.proofs.client.next_asker.Given as goal

abbrev pub invariant-loop-k : goal.invariant-loop-k
invariant-loop-k l = record {
  low : l.from ≤ l.k;
  high : l.k ≤ length l.clients;
  others : (j : ℕ) → l.from ≤ j → j < l.k → open_of l.clients j ≡ Some l.id → ⊥;
}

abbrev pub decreases-loop-k : goal.decreases-loop-k
decreases-loop-k l = length l.clients - l.k
