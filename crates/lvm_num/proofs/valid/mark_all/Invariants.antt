use Rattle.std.proofs.Common.{◌≡◌, ℕ, ◌||◌, take}
use Rattle.std.specs.Prelude.{◌==◌}
use Rattle.std.specs.List.{list_any}
use Rattle.lvm_num.specs.declared.place.Pp.{Pp}
use Rattle.lvm_num.specs.Bits.{has_bit}
use Rattle.lvm_num.specs.Marks.{AreFree, spot}
use Rattle.lvm_num.proofs.valid.mark_all.Given as goal

abbrev pub invariant-loop-pp : goal.invariant-loop-pp
invariant-loop-pp l =
    AreFree l.counts l.initial.marks (take l.pp-index l.map)
    × ((k : ℕ) → has_bit l.marks k ≡ has_bit l.initial.marks k || list_any (λ (pp : Pp). k == spot pp) (take l.pp-index l.map))
