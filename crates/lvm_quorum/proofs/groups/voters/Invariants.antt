use Rattle.lvm_num.specs.Disks.{has}
use Rattle.lvm_num.specs.Votes.{all_disks}
use Rattle.lvm_quorum.specs.passed.Transfer.{members_in}
use Rattle.lvm_quorum.specs.Surveyed.{surveyed}
use Rattle.lvm_quorum.proofs.Passing.{PassBelow}
use Rattle.lvm_quorum.proofs.groups.voters.Given as goal

abbrev pub invariant-loop-row : goal.invariant-loop-row
invariant-loop-row l = PassBelow (members_in (surveyed l.survey) all_disks l.id l.group) l.row-index (has l.voters)
