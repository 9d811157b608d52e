use Rattle.std.proofs.Common.{◌≡◌}
use Rattle.std.specs.Prelude.{flat_map}
use Rattle.std.specs.List.{range_with_len}
use Rattle.std.specs.String.{string_bytes}
use Rattle.lvm_show.specs.Listings.{partition_line}
use Rattle.lvm_show.proofs.map.map_lines.Given as goal

abbrev pub invariant-loop-lp : goal.invariant-loop-lp
invariant-loop-lp l = string_bytes l.text ≡ flat_map (partition_line l.t l.row) (range_with_len 0 l.lp)
