use Rattle.std.proofs.Common.{◌≡◌, take}
use Rattle.std.specs.Prelude.{None, find}
use Rattle.lvm_rebuild.specs.Choosing.{serves}
use Rattle.lvm_rebuild.proofs.choosing.spare_for.Given as goal

abbrev pub invariant-loop-row : goal.invariant-loop-row
invariant-loop-row g l = find (serves l.driver.1 l.lost l.copy) (take l.row-index l.row-items) ≡ None
