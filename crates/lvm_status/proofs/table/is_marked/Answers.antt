use Rattle.lvm_status.proofs.RowsLemmas.Searches.{past_bits}
use Rattle.lvm_status.proofs.table.is_marked.Goals as goal

pub returns-else-bit-bits : goal.returns-else-bit-bits
returns-else-bit-bits c = past_bits c.args.row.now.stale c.from-bit.result c.args.pp c.from-bit.ensures c.if-bit-bits.false
