use Rattle.std.proofs.Common.{◌≡◌, ◌++◌}
use Rattle.lvm_mwc.specs.Filled.{listed}
use Rattle.lvm_mwc.specs.Laid.{laid}
use Rattle.lvm_mwc.proofs.filled.Filled.list.Given as goal

abbrev pub invariant-loop-key : goal.invariant-loop-key
invariant-loop-key l = l.list.items ++ listed (laid l.key-iterator) ≡ listed l.fn.self
