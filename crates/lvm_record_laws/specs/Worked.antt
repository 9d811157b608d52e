-- Worked bytes.
use Rattle.std.specs.Prelude.{ℕ, ◌==◌, Bool, true, false, List, [], ◌∷◌, ◌++◌, take, drop, replicate}
use Rattle.lvm_num.specs.declared.place.Pp.{Pp}
use Rattle.lvm_num.specs.declared.descriptor.LvRow.{LvRow}
use Rattle.lvm_num.specs.declared.descriptor.Mode.TheVariants.{Active}
use Rattle.lvm_num.specs.declared.descriptor.Policy.TheVariants.{Sequential}
use Rattle.lvm_num.specs.declared.status.StatusRow.{StatusRow}
use Rattle.lvm_num.specs.declared.status.Status.{Status}
use Rattle.lvm_num.specs.declared.descriptor.PvRow.{PvRow}
use Rattle.lvm_num.specs.declared.descriptor.Descriptor.{Descriptor}
use Rattle.lvm_num.specs.declared.record.Framed.{Framed}
use Rattle.lvm_num.specs.Note.{Noted}

-- the name "datavg"
abbrev pub datavg : List ℕ
datavg = 0x64 ∷ 0x61 ∷ 0x74 ∷ 0x61 ∷ 0x76 ∷ 0x67 ∷ []

-- a disk of six partitions
abbrev pub with_partitions : ℕ → PvRow
with_partitions disk = record { disk = disk; pps = 6; spare = false }

-- three disks of six partitions, and no volume
abbrev pub worked : Descriptor
worked = record { id = 50; name = datavg; mib = 1; quorum = true; even = false; big = false; pvs = with_partitions 0 ∷ with_partitions 1 ∷ with_partitions 2 ∷ []; lvs = [] }

abbrev pub worked_bytes : List ℕ
worked_bytes =
    0x56 ∷ 0x47 ∷ 0x44 ∷ 0x31 ∷ 0 ∷ 0 ∷ 0 ∷ 0 ∷ 0 ∷ 0 ∷ 0 ∷ 0x32 ∷ 0x64 ∷ 0x61 ∷ 0x74 ∷ 0x61 ∷ 0x76 ∷ 0x67 ∷ 0 ∷ 0 ∷ 0 ∷ 0 ∷ 0 ∷ 0 ∷ 0 ∷ 0 ∷ 0 ∷ 0 ∷ 0 ∷ 1 ∷ 1 ∷ 0 ∷ 0 ∷ 3 ∷ 0 ∷ 0 ∷ 0 ∷ 0 ∷ 0 ∷ 0 ∷ 0 ∷ 0 ∷ 0 ∷ 0 ∷ 0 ∷ 0 ∷ 0 ∷ 0
    ∷ 0 ∷ 0 ∷ 0 ∷ 6 ∷ 0 ∷ 0 ∷ 0 ∷ 0 ∷ 0 ∷ 1 ∷ 0 ∷ 6 ∷ 0 ∷ 0 ∷ 0 ∷ 0 ∷ 0 ∷ 2 ∷ 0 ∷ 6 ∷ 0 ∷ 0 ∷ 0 ∷ 0 ∷ []

abbrev pub with_bad_flag : List ℕ
with_bad_flag = take 30 worked_bytes ++ 2 ∷ drop 31 worked_bytes

-- under the stamp (50, 1)
abbrev pub worked_framed : Framed
worked_framed = record { stamp = record { epoch = 50; seq = 1 }; content = worked_bytes }

-- its one sector
abbrev pub worked_frame : List ℕ
worked_frame = (0x56 ∷ 0x44 ∷ 0 ∷ 0 ∷ 0 ∷ 0 ∷ 0 ∷ 1 ∷ 0 ∷ 0 ∷ 0 ∷ 0 ∷ 0 ∷ 0 ∷ 0 ∷ 0x32 ∷ 0 ∷ 0 ∷ 0 ∷ 0x48 ∷ []) ++ worked_bytes ++ replicate 420 0

-- volume 1, track group 5, in the session 50
abbrev pub worked_note : Noted
worked_note = record { stamp = 50; entries = record { lv = 1; group = 5 } ∷ [] }

abbrev pub worked_note_bytes : List ℕ
worked_note_bytes = (0 ∷ 0 ∷ 0 ∷ 0 ∷ 0 ∷ 0 ∷ 0 ∷ 0x32 ∷ 0 ∷ 1 ∷ 0 ∷ 0 ∷ 0 ∷ 0 ∷ 0 ∷ 5 ∷ []) ++ replicate 488 0 ++ (0 ∷ 0 ∷ 0 ∷ 0 ∷ 0 ∷ 0 ∷ 0 ∷ 0x32 ∷ [])

-- ---- numbers

abbrev pub with_members : List PvRow → Bool → Descriptor
with_members pvs even = record { id = 50; name = datavg; mib = 1; quorum = true; even = even; big = false; pvs = pvs; lvs = [] }

-- ---- a volume

abbrev pub place : ℕ → ℕ → Pp
place disk pp = record { disk = disk; pp = pp }

-- two logical partitions, two copies each
abbrev pub lv00 : LvRow
lv00 = record { number = 1; name = 0x6c ∷ 0x76 ∷ 0x30 ∷ 0x30 ∷ []; copies = 2; mode = Active; policy = Sequential; lps = 2; map = place 0 0 ∷ place 1 0 ∷ place 0 1 ∷ place 1 1 ∷ [] }

abbrev pub with_volume : Descriptor
with_volume = record { id = 50; name = datavg; mib = 1; quorum = false; even = true; big = true; pvs = with_partitions 0 ∷ with_partitions 1 ∷ []; lvs = lv00 ∷ [] }

-- the second copy of the first partition on the disk of the first
abbrev pub not_strict : Descriptor
not_strict = record { id = 50; name = datavg; mib = 1; quorum = false; even = true; big = true; pvs = with_partitions 0 ∷ with_partitions 1 ∷ []; lvs = record { number = 1; name = 0x6c ∷ 0x76 ∷ 0x30 ∷ 0x30 ∷ []; copies = 2; mode = Active; policy = Sequential; lps = 2; map = place 0 0 ∷ place 0 2 ∷ place 0 1 ∷ place 1 1 ∷ [] } ∷ [] }

-- the second partition of the volume at the first one's place
abbrev pub used_twice : Descriptor
used_twice = record { id = 50; name = datavg; mib = 1; quorum = false; even = true; big = true; pvs = with_partitions 0 ∷ with_partitions 1 ∷ []; lvs = record { number = 1; name = 0x6c ∷ 0x76 ∷ 0x30 ∷ 0x30 ∷ []; copies = 2; mode = Active; policy = Sequential; lps = 2; map = place 0 0 ∷ place 1 0 ∷ place 0 0 ∷ place 1 1 ∷ [] } ∷ [] }

-- ---- a status

abbrev pub row_of_disk : ℕ → StatusRow
row_of_disk disk = record { disk = disk; missing = disk == 1; stale = 5 ∷ replicate 126 0 }

abbrev pub worked_status : List ℕ → Bool → Status
worked_status dirty big = record { id = 50; big = big; dirty = dirty; rows = row_of_disk 0 ∷ row_of_disk 1 ∷ [] }
