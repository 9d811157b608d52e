use Rattle.std.proofs.Common.{◌≡◌, ◌*◌, length, take, replicate}
use Rattle.std.specs.List.{concat}
use Rattle.std.specs.Int.{w64, to_be_bytes}
use Rattle.lvm_num.proofs.word.fill.Given as goal

abbrev pub invariant-loop-k : goal.invariant-loop-k
invariant-loop-k l = (length l.block ≡ 512) × (take (8 * l.k) l.block ≡ concat (replicate l.k (to_be_bytes w64 l.word)))
