use Rattle.std.proofs.Common.{length, sym}
use Rattle.lvm_vgsa.proofs.StatusBytesLemmas.Sizes.{length-dirty, not_empty}
use Rattle.lvm_vgsa.proofs.writing.size_of_dirty.Goals as goal

pub returns-else-is_empty : goal.returns-else-is_empty
returns-else-is_empty c = sym (length-dirty c.args.numbers.now (not_empty (length c.args.numbers.now) (sym c.if-is_empty.ensures)))
