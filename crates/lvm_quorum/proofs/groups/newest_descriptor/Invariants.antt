use Rattle.std.proofs.Common.{◌≡◌}
use Rattle.lvm_num.specs.Record.{newest_below}
use Rattle.lvm_quorum.specs.passed.Transfer.{if_passes, is_of}
use Rattle.lvm_quorum.specs.Surveyed.{surveyed}
use Rattle.lvm_quorum.specs.Groups.{shown_record_if}
use Rattle.lvm_quorum.proofs.groups.newest_descriptor.Given as goal

abbrev pub invariant-loop-row : goal.invariant-loop-row
invariant-loop-row l = shown_record_if l.newest ≡ newest_below (λ d. if_passes (is_of l.id) ((surveyed l.survey).descriptor d)) l.row-index
