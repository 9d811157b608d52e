-- The facts that a request reads.
use Rattle.std.specs.Prelude.{false}
use Rattle.lvm_path.specs.declared.facts.Facts.{Facts}

-- none
abbrev pub no_facts : Facts
no_facts = record { blocked = false; pending = false; pinned = false; named = false; dirty = false; marked = false; usable = false; changed = false; kept = false }
