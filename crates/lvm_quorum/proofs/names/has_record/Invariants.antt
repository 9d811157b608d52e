use Rattle.std.proofs.Common.{◌≡◌, ℕ, ◌<◌, None}
use Rattle.lvm_num.specs.Votes.{all_disks}
use Rattle.lvm_quorum.specs.passed.Transfer.{status_among}
use Rattle.lvm_quorum.specs.Surveyed.{surveyed}
use Rattle.lvm_quorum.specs.Groups.{IsNamedBy}
use Rattle.lvm_quorum.proofs.names.has_record.Given as goal

abbrev pub invariant-loop-row : goal.invariant-loop-row
invariant-loop-row l = (d : ℕ) → d < l.row-index → (id : ℕ) → IsNamedBy ((surveyed l.survey).descriptor d) l.name id → status_among (surveyed l.survey) all_disks id ≡ None
