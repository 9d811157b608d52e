use Rattle.std.proofs.Common.{◌≡◌, take}
use Rattle.std.specs.Prelude.{flat_map}
use Rattle.std.specs.String.{string_bytes}
use Rattle.lvm_show.specs.Listings.{volume_line}
use Rattle.lvm_show.proofs.group.volume_lines.Given as goal

abbrev pub invariant-loop-row : goal.invariant-loop-row
invariant-loop-row l = string_bytes l.text ≡ flat_map (volume_line l.d l.t) (take l.row-index l.lvs)
