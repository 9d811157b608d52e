use Rattle.std.proofs.Common.{◌≡◌, ◌+◌, ◌*◌, take}
use Rattle.std.specs.Prelude.{flat_map}
use Rattle.std.specs.Int.{w16, to_be_bytes}
use Rattle.lvm_vgsa.specs.Putting.{Puts}
use Rattle.lvm_vgsa.proofs.writing.put_numbers.Given as goal

abbrev pub invariant-loop-number : goal.invariant-loop-number
invariant-loop-number l = (l.end ≡ l.at + 2 * l.number-index) × Puts l.initial.into l.into l.at (flat_map (to_be_bytes w16) (take l.number-index l.numbers))
