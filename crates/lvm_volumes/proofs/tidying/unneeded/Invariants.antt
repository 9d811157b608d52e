use Rattle.std.proofs.Common.{◌≡◌, ◌≤◌, take, filter, length}
use Rattle.std.specs.Prelude.{not}
use Rattle.lvm_volumes.specs.Tidying.{needs_mark}
use Rattle.lvm_volumes.proofs.tidying.unneeded.Given as goal

abbrev pub invariant-loop-number : goal.invariant-loop-number
invariant-loop-number l = record {
  kept : l.found.items ≡ filter (λ number. not (needs_mark l.group.lvs l.table number)) (take l.number-index l.table.dirty);
  count : length l.found.items ≤ l.number-index;
}
