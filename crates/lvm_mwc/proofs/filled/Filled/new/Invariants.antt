use Rattle.std.proofs.Common.{◌≡◌}
use Rattle.lvm_mwc.proofs.LaidLemmas.{fillers}
use Rattle.lvm_mwc.proofs.filled.Filled.new.Given as goal

abbrev pub invariant-loop-group : goal.invariant-loop-group
invariant-loop-group l = l.keys.entries ≡ fillers l.group
