use Rattle.std.proofs.Common.{◌≡◌, ◌≤◌, ◌||◌, ℕ, length, take}
use Rattle.lvm_vol.specs.May.{known}
use Rattle.lvm_allowed.specs.Rows.{facts_of}
use Rattle.lvm_allowed.specs.Seen.{seen_of}
use Rattle.lvm_allowed.specs.Told.{allows}
use Rattle.lvm_allowed.proofs.recent.may_have.Given as goal

abbrev pub invariant-loop-k : goal.invariant-loop-k
invariant-loop-k l = record {
  within : l.k ≤ length l.rows;
  told : (run : ℕ) → allows (seen_of (known (facts_of run l.asks l.blocks l.rows) l.block.vol l.block.number) l.value)
      ≡ (allows (seen_of (known (facts_of run l.asks l.blocks (take l.k l.rows)) l.vol l.block.number) l.value) || l.also);
}

abbrev pub decreases-loop-k : goal.decreases-loop-k
decreases-loop-k l = l.k
