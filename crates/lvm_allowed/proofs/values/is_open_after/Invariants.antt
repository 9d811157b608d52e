use Rattle.std.proofs.Common.{◌≡◌, drop}
use Rattle.lvm_allowed.specs.Seen.{is_any_open}
use Rattle.lvm_allowed.proofs.values.is_open_after.Given as goal

abbrev pub invariant-loop-k : goal.invariant-loop-k
invariant-loop-k l = is_any_open l.sought l.asks l.blocks l.block.vol l.block.number l.value (drop l.k l.rows) ≡ is_any_open l.sought l.asks l.blocks l.block.vol l.block.number l.value l.rows
