use Rattle.std.proofs.Common.{◌≡◌, ◌+◌, ◌*◌, take}
use Rattle.std.specs.Prelude.{flat_map}
use Rattle.lvm_num.specs.StatusBytes.{status_row_bytes}
use Rattle.lvm_vgsa.specs.Putting.{Puts}
use Rattle.lvm_vgsa.proofs.writing.put_rows.Given as goal

abbrev pub invariant-loop-row : goal.invariant-loop-row
invariant-loop-row l = (l.end ≡ l.at + 132 * l.row-index) × Puts l.initial.into l.into l.at (flat_map status_row_bytes (take l.row-index l.rows))
