use Rattle.std.proofs.Common.{◌≡◌, take}
use Rattle.std.specs.List.{flat_map}
use Rattle.lvm_memory.specs.Pieces.{joined}
use Rattle.lvm_memory.proofs.disk.Disk.image.Given as goal

abbrev pub invariant-loop-at : goal.invariant-loop-at
invariant-loop-at l = l.image.items ≡ flat_map (λ sector. sector) (take l.at (joined l.self-inside.pieces.items))
