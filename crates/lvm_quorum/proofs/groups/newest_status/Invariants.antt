use Rattle.std.proofs.Common.{◌≡◌, None}
use Rattle.std.specs.Prelude.{if◌then◌else◌}
use Rattle.lvm_num.specs.Disks.{has}
use Rattle.lvm_num.specs.Record.{newest_below}
use Rattle.lvm_quorum.specs.passed.Transfer.{if_passes, is_status_of}
use Rattle.lvm_quorum.specs.Surveyed.{surveyed}
use Rattle.lvm_quorum.specs.Groups.{shown_record_if}
use Rattle.lvm_quorum.proofs.groups.newest_status.Given as goal

abbrev pub invariant-loop-row : goal.invariant-loop-row
invariant-loop-row l = shown_record_if l.newest ≡ newest_below (λ d. if has l.voters d then if_passes (is_status_of l.id) ((surveyed l.survey).status d) else None) l.row-index
