use Rattle.std.proofs.Common.{take}
use Rattle.lvm_num.specs.Disks.{has}
use Rattle.lvm_commit.proofs.RoundsLemmas.Wanting.{IsLosing}
use Rattle.lvm_change.proofs.parting.lose.Given as goal

abbrev pub invariant-loop-row : goal.invariant-loop-row
invariant-loop-row l = IsLosing (has l.lost) (take l.row-index l.d.pvs) l.fn.updater l.updater
