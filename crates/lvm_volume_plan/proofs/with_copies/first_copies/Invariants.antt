use Rattle.std.proofs.Common.{◌≡◌, take, flat_map}
use Rattle.std.specs.List.{range_with_len}
use Rattle.lvm_num.specs.Descriptor.{copies_of}
use Rattle.lvm_volume_plan.proofs.with_copies.first_copies.Given as goal

abbrev pub invariant-loop-lp : goal.invariant-loop-lp
invariant-loop-lp l = l.first.items ≡ flat_map (λ lp. take l.copies (copies_of l.row lp)) (range_with_len 0 l.lp)
