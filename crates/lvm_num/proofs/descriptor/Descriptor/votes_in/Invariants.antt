use Rattle.std.proofs.Common.{◌≡◌, ◌≤◌, ◌*◌, take}
use Rattle.std.specs.Prelude.{if◌then◌else◌, sum_by}
use Rattle.lvm_num.specs.declared.descriptor.PvRow.{PvRow}
use Rattle.lvm_num.specs.Disks.{has}
use Rattle.lvm_num.specs.Votes.{votes_of}
use Rattle.lvm_num.proofs.descriptor.Descriptor.votes_in.Given as goal

abbrev pub invariant-loop-row : goal.invariant-loop-row
invariant-loop-row l =
    (l.votes ≡ sum_by (λ (row : PvRow). if has l.disks row.disk then votes_of l.self row.disk else 0) (take l.row-index l.self.pvs)) × (l.votes ≤ 2 * l.row-index)
