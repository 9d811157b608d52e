use Rattle.std.proofs.Common.{◌≡◌, ◌-◌, ◌++◌, [], List}
use Rattle.lvm_num.specs.declared.place.Pp.{Pp}
use Rattle.lvm_num.specs.DescriptorBytes.{partitions_at}
use Rattle.lvm_vgda.specs.passed.Fields.{rest_of}
use Rattle.lvm_vgda.specs.Used.{Uses}
use Rattle.lvm_vgda.proofs.maps.partitions_at.Given as goal

abbrev pub invariant-loop : goal.invariant-loop
invariant-loop l =
    (pps : List Pp) → Uses l.fn.used pps
    → Uses l.used (pps ++ l.own.items) × (partitions_at l.members pps l.copies (l.count - l.counter) l.own.items (rest_of l.rest) ≡ partitions_at l.members pps l.copies l.count [] (rest_of l.fn.unread))
