use Rattle.std.proofs.Common.{◌≡◌, ℕ, not, map, None}
use Rattle.std.specs.Prelude.{find}
use Rattle.std.specs.List.{range_with_len}
use Rattle.lvm_num.specs.declared.place.Pp.{Pp}
use Rattle.lvm_num.specs.Descriptor.{partitions_used}
use Rattle.lvm_map.specs.FirstFit.{is_among}
use Rattle.lvm_move_plan.proofs.free.lowest_free.Given as goal

abbrev pub invariant-loop-k : goal.invariant-loop-k
invariant-loop-k l = find (λ (pp : Pp). not (is_among (partitions_used l.d) pp)) (map (λ (k : ℕ). let pp : Pp = record { disk = l.row.disk; pp = k } in pp) (range_with_len 0 l.k)) ≡ None
