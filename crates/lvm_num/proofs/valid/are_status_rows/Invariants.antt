use Rattle.std.proofs.Common.{take}
use Rattle.lvm_num.specs.Status.{AreStatusRows}
use Rattle.lvm_num.proofs.valid.are_status_rows.Given as goal

abbrev pub invariant-loop-k : goal.invariant-loop-k
invariant-loop-k l = AreStatusRows (take l.k l.rows)
