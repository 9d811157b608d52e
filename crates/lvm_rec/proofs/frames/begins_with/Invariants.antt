use Rattle.std.proofs.Common.{◌≡◌, ◌*◌, take}
use Rattle.lvm_num.specs.Record.{frame, joined}
use Rattle.lvm_rec.proofs.frames.begins_with.Given as goal

abbrev pub invariant-loop-k : goal.invariant-loop-k
invariant-loop-k l = take (512 * l.k) l.bytes ≡ joined (frame l.kind l.stamp l.content) 0 l.k
