use Rattle.std.proofs.Common.{◌≡◌, ℕ, ◌<◌}
use Rattle.lvm_quorum.specs.Surveyed.{surveyed}
use Rattle.lvm_quorum.specs.Groups.{IsNamedBy}
use Rattle.lvm_quorum.proofs.names.other_named.Given as goal

abbrev pub invariant-loop-row : goal.invariant-loop-row
invariant-loop-row l = (d : ℕ) → d < l.row-index → (id : ℕ) → IsNamedBy ((surveyed l.survey).descriptor d) l.name id → id ≡ l.id
