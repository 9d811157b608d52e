use Rattle.std.specs.Prelude.{count_by}
use Rattle.lvm_num.specs.declared.descriptor.PvRow.{PvRow}
use Rattle.lvm_num.specs.Disks.{has}
use Rattle.lvm_status.specs.Update.{seen}
use Rattle.lvm_commit.proofs.UpdateLemmas.{IsEnding}
use Rattle.lvm_commit.proofs.write.end_writes.Given as goal

abbrev pub invariant-loop-disk : goal.invariant-loop-disk
invariant-loop-disk l = IsEnding (seen l.fn.updater) (has l.failed) (seen l.updater)

abbrev pub decreases-loop-disk : goal.decreases-loop-disk
decreases-loop-disk l = count_by (λ (row : PvRow). has l.updater.writes.unstarted row.disk) l.updater.group.pvs
