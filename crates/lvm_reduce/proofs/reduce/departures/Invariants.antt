use Rattle.std.proofs.Common.{drop}
use Rattle.lvm_reduce.proofs.PlanningLemmas.{IsPlannedSoFar}
use Rattle.lvm_reduce.proofs.reduce.departures.Given as goal

abbrev pub invariant-loop-disk : goal.invariant-loop-disk
invariant-loop-disk l = IsPlannedSoFar l.session.origin.table l.session.descriptor l.disks (drop l.disk-index l.disks) l.group l.planned.items
