use Rattle.std.proofs.Common.{◌≡◌, ◌&&◌, ◌==◌, take, filter}
use Rattle.std.specs.List.{list_any}
use Rattle.lvm_num.specs.declared.descriptor.LvRow.{LvRow}
use Rattle.lvm_num.specs.Modes.{is_passive}
use Rattle.lvm_write.proofs.next.passive_numbers.Given as goal

abbrev pub invariant-loop-number : goal.invariant-loop-number
invariant-loop-number l = l.numbers.items ≡ filter (λ n. list_any (λ (row : LvRow). row.number == n && is_passive row.mode) l.volumes) (take l.number-index l.dirty)
