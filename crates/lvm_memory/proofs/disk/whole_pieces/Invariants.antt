use Rattle.std.proofs.Common.{◌≡◌, replicate}
use Rattle.lvm_num.specs.Buffer.{zero_sector}
use Rattle.lvm_memory.proofs.disk.whole_pieces.Given as goal

abbrev pub invariant-loop : goal.invariant-loop
invariant-loop l = l.pieces.items ≡ replicate l.counter (replicate 2048 zero_sector)
