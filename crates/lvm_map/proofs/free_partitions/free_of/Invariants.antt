use Rattle.std.proofs.Common.{◌≡◌, ℕ, not, map}
use Rattle.std.specs.Prelude.{filter}
use Rattle.std.specs.List.{range_with_len}
use Rattle.lvm_num.specs.declared.place.Pp.{Pp}
use Rattle.lvm_num.specs.Bits.{has_bit}
use Rattle.lvm_num.specs.Marks.{spot}
use Rattle.lvm_map.proofs.free_partitions.free_of.Given as goal

abbrev pub invariant-loop-k : goal.invariant-loop-k
invariant-loop-k l =
    l.free.items ≡ filter (λ (pp : Pp). not (has_bit l.marks (spot pp))) (map (λ (k : ℕ). let pp : Pp = record { disk = l.row.disk; pp = k } in pp) (range_with_len 0 l.k))
