use Rattle.std.proofs.Common.{ℕ, List, length, ap, arith}
use Rattle.lvm_num.specs.StatusBytes.{dirty_bytes}
use Rattle.lvm_num.proofs.DescriptorLemmas.Bounds.{few_dirty}
use Rattle.lvm_vgsa.proofs.StatusBytesLemmas.Sizes.{few_rows, dirty_small, length-status}
use Rattle.lvm_vgsa.proofs.writing.size_of_status.Goals as goal

pub size_of_dirty-requires : goal.size_of_dirty-requires
size_of_dirty-requires c = rw c.as_slice.ensures (few_dirty c.args.s.now.dirty c.requires.dirty)

pub overflow_add-result-2 : goal.overflow_add-result-2
overflow_add-result-2 c =
    omega (arith, c.len.ensures, c.size_of_dirty.ensures, ap (λ (l : List ℕ). length (dirty_bytes l)) c.as_slice.ensures, few_rows c.args.s.now c.requires, dirty_small c.args.s.now.dirty (few_dirty c.args.s.now.dirty c.requires.dirty))

pub returns : goal.returns
returns c = omega (arith, c.len.ensures, c.size_of_dirty.ensures, ap (λ (l : List ℕ). length (dirty_bytes l)) c.as_slice.ensures, length-status c.args.s.now c.requires)
