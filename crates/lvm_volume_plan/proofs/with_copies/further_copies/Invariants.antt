use Rattle.std.proofs.Common.{◌≡◌, drop, flat_map}
use Rattle.std.specs.List.{range_with_len}
use Rattle.lvm_num.specs.Descriptor.{copies_of}
use Rattle.lvm_volume_plan.specs.Copies.{with_map}
use Rattle.lvm_volume_plan.proofs.with_copies.further_copies.Given as goal

abbrev pub invariant-loop-lp : goal.invariant-loop-lp
invariant-loop-lp l = l.further.items ≡ flat_map (λ lp. drop l.row.copies (copies_of (with_map l.row l.copies l.map) lp)) (range_with_len 0 l.lp)
