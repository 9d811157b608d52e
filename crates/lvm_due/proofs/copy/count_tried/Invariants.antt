use Rattle.std.proofs.Common.{◌≡◌, ◌≤◌, take}
use Rattle.std.specs.Prelude.{count_by}
use Rattle.lvm_num.specs.declared.place.Pp.{Pp}
use Rattle.lvm_num.specs.Disks.{has}
use Rattle.lvm_due.proofs.copy.count_tried.Given as goal

abbrev pub invariant-loop-pp : goal.invariant-loop-pp
invariant-loop-pp l = (l.tried ≡ count_by (λ (p : Pp). has l.copy.tried p.disk) (take l.pp-index l.copies)) × (l.tried ≤ l.pp-index)
