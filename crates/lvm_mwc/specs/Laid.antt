-- The keys of a map with their pins, as entries.
use Rattle.std.specs.Prelude.{ℕ, List, map}
use Rattle.lvm_mwc.specs.declared.entries.CacheEntry.{CacheEntry}
use Rattle.lvm_mwc.specs.declared.filled.Key.{Key}

-- a key with its pins
abbrev pub entry_of : Key × ℕ → CacheEntry
entry_of p = record { lv = p.0.lv; group = p.0.group; pins = p.1 }

-- all of them, in their order
abbrev pub laid : List (Key × ℕ) → List CacheEntry
laid keys = map entry_of keys
