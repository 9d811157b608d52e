use Rattle.std.proofs.Common.{◌≡◌, ◌+◌}
use Rattle.lvm_vol.specs.Log.{next_id}
use Rattle.lvm_calls.specs.Numbers.{begun_in}
use Rattle.lvm_calls.proofs.numbers.next_id.Given as goal

abbrev pub invariant-loop-k : goal.invariant-loop-k
invariant-loop-k l = next_id l.history ≡ begun_in l.history l.k + 1
