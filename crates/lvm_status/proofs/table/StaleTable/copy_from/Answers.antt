use Rattle.lvm_num.proofs.DescriptorLemmas.Bounds.{few_dirty}
use Rattle.lvm_status.proofs.table.StaleTable.copy_from.Goals as goal

pub copy_from-requires : goal.copy_from-requires
copy_from-requires c = rw c.as_slice.ensures (few_dirty c.from.inside.status.dirty c.from.invariant.dirty)
