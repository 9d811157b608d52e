-- Which copies missing disks leave behind, by a status alone.
use Rattle.std.specs.Prelude.{ℕ, Bool, ◌&&◌, not, List}
use Rattle.std.specs.List.{list_any, range_with_len}
use Rattle.lvm_num.specs.declared.place.Pp.{Pp}
use Rattle.lvm_num.specs.declared.descriptor.LvRow.{LvRow}
use Rattle.lvm_num.specs.Descriptor.{copies_of}
use Rattle.lvm_num.specs.Status.{calls_missing, calls_stale}
use Rattle.lvm_status.specs.Update.{Stored}
use Rattle.lvm_session.specs.Marks.{is_among}

-- it can be read, and isn't wanted stale
abbrev pub can_stand_in : Stored → Pp → Bool
can_stand_in s p = (not (calls_stale s.committed p) && not (calls_missing s.wanted p.disk)) && not (calls_stale s.wanted p)

-- it is fresh, on a missing disk
abbrev pub is_gone : Stored → Pp → Bool
is_gone s p = not (calls_stale s.committed p) && calls_missing s.wanted p.disk

-- one of these copies that is so, while another can stand in for it
abbrev pub is_left_among : Stored → List Pp → Pp → Bool
is_left_among s copies p = is_among copies p && not (calls_stale s.committed p) && calls_missing s.wanted p.disk && list_any (can_stand_in s) copies

-- so it is of a logical partition of the volume below one of them
abbrev pub is_left_below : Stored → LvRow → ℕ → Pp → Bool
is_left_below s row most p = list_any (λ (lp : ℕ). is_left_among s (copies_of row lp) p) (range_with_len 0 most)

-- so it is of one of these volumes
abbrev pub is_left_of : Stored → List LvRow → Pp → Bool
is_left_of s rows p = list_any (λ (row : LvRow). is_left_below s row row.lps p) rows
