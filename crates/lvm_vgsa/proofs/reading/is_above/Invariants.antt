use Rattle.std.proofs.Common.{◌≡◌, drop}
use Rattle.std.specs.Prelude.{nat_lt}
use Rattle.std.specs.List.{list_all}
use Rattle.lvm_vgsa.proofs.reading.is_above.Given as goal

abbrev pub invariant-loop-other : goal.invariant-loop-other
invariant-loop-other l = list_all (λ m. nat_lt m l.number) (drop l.other-index l.earlier) ≡ list_all (λ m. nat_lt m l.number) l.earlier
