use Rattle.std.proofs.Common.{◌≡◌, drop}
use Rattle.lvm_num.specs.Record.{payload_of}
use Rattle.lvm_rec.proofs.frames.gather.Given as goal

abbrev pub invariant-loop-k : goal.invariant-loop-k
invariant-loop-k l = l.content.items ≡ drop 4 (payload_of l.bytes l.k)
