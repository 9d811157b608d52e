-- Entries of a history that speak of no volume, or take nothing away.
use Rattle.std.specs.Prelude.{List, [], ◌∷◌, ◌++◌}
use Rattle.lvm_vol.specs.declared.entry.Vol.{Vol}
use Rattle.lvm_vol.specs.declared.entry.Vol.TheVariants.{Disk, Lv}
use Rattle.lvm_vol.specs.Facts.{Fact, Removing, Removed, Begun, Landed, Taken, Cut, On}
use Rattle.lvm_kept.specs.Contents.{Contents}
use Rattle.lvm_kept.specs.Kept.{RawAgrees, Kept}

-- a disk, and no volume
abbrev pub IsDisk : Vol → Type 0
IsDisk (Disk d) = Unit {0}
IsDisk (Lv lv) = ⊥

-- the entry says nothing of the blocks of a volume, nor of how one stands
abbrev pub IsOfDisks : Fact → Type 0
IsOfDisks (Begun r) = IsDisk r.vol
IsOfDisks (Landed r how started got) = IsDisk r.vol
IsOfDisks (Removing vol) = IsDisk vol
IsOfDisks (Removed vol) = IsDisk vol
IsOfDisks (Taken r) = Unit {0}
IsOfDisks (On moment) = Unit {0}
IsOfDisks _ = ⊥

-- Such an entry keeps the history where, with it, the disks in no group still hold what they may.
abbrev pub DiskEntryKeeps : Type 0
DiskEntryKeeps = (c : Contents) (facts : List Fact) (f : Fact) → IsOfDisks f → RawAgrees c (facts ++ f ∷ []) → Kept c facts → Kept c (facts ++ f ∷ [])

-- An entry after which every block may have what it might have before, and each volume stands as it did: a request on a disk begins, an
-- answer is taken, a disk's content is given up, a group was varied on, the power was cut.
abbrev pub LeavesEachBlock : Fact → Type 0
LeavesEachBlock (Begun r) = IsDisk r.vol
LeavesEachBlock (Removing vol) = IsDisk vol
LeavesEachBlock (Removed vol) = IsDisk vol
LeavesEachBlock (Taken r) = Unit {0}
LeavesEachBlock (On moment) = Unit {0}
LeavesEachBlock Cut = Unit {0}
LeavesEachBlock _ = ⊥

-- It keeps the history, whatever the disks show.
abbrev pub QuietEntryKeeps : Type 0
QuietEntryKeeps = (c : Contents) (facts : List Fact) (f : Fact) → LeavesEachBlock f → Kept c facts → Kept c (facts ++ f ∷ [])
