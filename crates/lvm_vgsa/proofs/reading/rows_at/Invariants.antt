use Rattle.std.proofs.Common.{◌≡◌, ◌-◌, []}
use Rattle.lvm_num.specs.StatusBytes.{status_rows_at}
use Rattle.lvm_fields.specs.Reading.{rest_of}
use Rattle.lvm_vgsa.proofs.reading.rows_at.Given as goal

abbrev pub invariant-loop : goal.invariant-loop
invariant-loop l = status_rows_at (l.count - l.counter) l.rows.items (rest_of l.rest) ≡ status_rows_at l.count [] (rest_of l.unread)
