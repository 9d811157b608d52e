-- A log of write ranges that may run full.
use Rattle.std.specs.Prelude.{ℕ, ◌++◌, [], ◌∷◌, List, length, Option, Some, None, if◌then◌else◌, nat_lt}
use Rattle.lvm_disk.specs.Device.{Range}
use Rattle.lvm_memory.specs.declared.write_log.WriteRange.{WriteRange}

-- the ranges that were written, as long as there was room for each
pub record Logged : Type 0 where
  pub wrote : Option (List Range)
  pub room : ℕ

-- one range more; where there is no room for it, the log tells nothing from then on
abbrev pub logged : ℕ → Option (List Range) → Range → Option (List Range)
logged room None range = None
logged room (Some ranges) range = if nat_lt (length ranges) room then Some (ranges ++ range ∷ []) else None

-- a range as contracts see it
abbrev pub range_of : WriteRange → Range
range_of r = record { disk = r.disk; first = r.first; count = r.count }
