use Rattle.std.proofs.Common.{◌≡◌, ◌++◌, take}
use Rattle.std.specs.Prelude.{flat_map}
use Rattle.std.specs.String.{string_bytes}
use Rattle.lvm_show.specs.Listings.{copy_text}
use Rattle.lvm_show.proofs.map.push_copies.Given as goal

abbrev pub invariant-loop-pp : goal.invariant-loop-pp
invariant-loop-pp l = string_bytes l.text ≡ string_bytes l.fn.text ++ flat_map (copy_text l.t) (take l.pp-index l.copies)
