-- The entries of a command on a group that is on.
use Rattle.std.specs.Prelude.{ℕ, List, slice_set}
use Rattle.lvm_vol.specs.Facts.{Fact, Made}
use Rattle.lvm_vol.specs.declared.entry.Vol.TheVariants.{Disk, Lv}
use Rattle.lvm_vol.specs.declared.entry.Entry.{Entry}
use Rattle.lvm_vol.specs.declared.entry.Entry.TheVariants as entry

-- the entry says that a volume is being made, is made, is split off, is being removed, or is removed, or that a disk isn't a raw one any more
abbrev pub IsEntryOfCommand : Entry → Type 0
IsEntryOfCommand (entry.Making lv blocks mode) = Unit {0}
IsEntryOfCommand (entry.Made lv) = Unit {0}
IsEntryOfCommand (entry.Split from lv) = Unit {0}
IsEntryOfCommand (entry.Removing (Lv lv)) = Unit {0}
IsEntryOfCommand (entry.Removed (Lv lv)) = Unit {0}
IsEntryOfCommand (entry.Removing (Disk disk)) = ⊥
IsEntryOfCommand (entry.Removed (Disk disk)) = Unit {0}
IsEntryOfCommand _ = ⊥

-- for each number of a volume the copy at which its last read began, once this was entered: a volume that is made hasn't been read
abbrev pub last_reads : Fact → List ℕ → List ℕ
last_reads (Made lv) last = slice_set last lv 0
last_reads other last = last
