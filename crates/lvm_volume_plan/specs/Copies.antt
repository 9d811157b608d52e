-- The descriptors of a group in which a volume has other copies.
use Rattle.std.specs.Prelude.{ℕ, ◌==◌, if◌then◌else◌, List, map, take, drop, flat_map}
use Rattle.std.specs.List.{range_with_len}
use Rattle.lvm_num.specs.declared.place.Pp.{Pp}
use Rattle.lvm_num.specs.declared.descriptor.LvRow.{LvRow}
use Rattle.lvm_num.specs.declared.descriptor.Descriptor.{Descriptor}
use Rattle.lvm_num.specs.Descriptor.{copies_of}

-- the volume with so many copies of each logical partition, as this map has them
abbrev pub with_map : LvRow → ℕ → List Pp → LvRow
with_map row copies pps = record row { copies = copies; map = pps }

-- the group in which the volume of the number has them
abbrev pub with_copies : Descriptor → ℕ → ℕ → List Pp → Descriptor
with_copies d lv copies pps = record d { lvs = map (λ row. if row.number == lv then with_map row copies pps else row) d.lvs }

-- the first so many copies of each logical partition, and those behind them
abbrev pub first_copies : LvRow → ℕ → List Pp
first_copies row copies = flat_map (λ lp. take copies (copies_of row lp)) (range_with_len 0 row.lps)

abbrev pub further_copies : LvRow → ℕ → List Pp
further_copies row copies = flat_map (λ lp. drop copies (copies_of row lp)) (range_with_len 0 row.lps)
