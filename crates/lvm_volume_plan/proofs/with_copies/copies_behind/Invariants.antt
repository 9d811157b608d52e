use Rattle.std.proofs.Common.{◌≡◌, drop, flat_map}
use Rattle.std.specs.List.{range_with_len}
use Rattle.lvm_num.specs.Descriptor.{copies_of}
use Rattle.lvm_volume_plan.proofs.with_copies.copies_behind.Given as goal

abbrev pub invariant-loop-lp : goal.invariant-loop-lp
invariant-loop-lp l = l.further.items ≡ flat_map (λ lp. drop l.copies (copies_of l.row lp)) (range_with_len 0 l.lp)
