use Rattle.std.proofs.Common.{sym}
use Rattle.lvm_vgsa.specs.Parts.{status_by_parts}
use Rattle.lvm_vgsa.proofs.StatusBytesLemmas.Many.{more_follow}
use Rattle.lvm_vgsa.proofs.reading.status_at.Goals as goal

pub returns-then-not-is_empty : goal.returns-then-not-is_empty
unfolding status_by_parts
returns-then-not-is_empty c =
    rw (c.in_ok-version.ensures, c.in_ok-rows.ensures, c.in_ok-dirty.ensures)
    (more_follow _ _ _ (sym c.if-not-is_empty.ensures))
