use Rattle.std.proofs.Common.{◌≡◌, ◌==◌, List, Some, sym, subst}
use Rattle.std.specs.List.{find}
use Rattle.lvm_num.specs.declared.descriptor.LvRow.{LvRow}
use Rattle.lvm_status.proofs.DescriptorLemmas.{few_of_volume}
use Rattle.lvm_status.proofs.table.StaleTable.stale_of.Goals as goal

found : (c : goal.After-as_slice-in-Some) → find (λ (row : LvRow). row.number == c.args.lv) c.args.d.now.lvs ≡ Some c.in-Some.row.now
found c = sym (subst (λ (rows : List LvRow). Some c.in-Some.row.now ≡ find (λ (row : LvRow). row.number == c.args.lv) rows) c.as_slice.ensures c.in-Some.ensures)

pub stale_among-requires : goal.stale_among-requires
stale_among-requires c = rw c.as_slice-in-Some.ensures (few_of_volume c.args.d.now c.requires c.args.lv c.in-Some.row.now (found c))
