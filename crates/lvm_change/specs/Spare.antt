-- The next descriptor of a group of which a member comes to be a spare, or to be none any more.
use Rattle.std.specs.Prelude.{ℕ, Bool, ◌==◌, if◌then◌else◌, map}
use Rattle.lvm_num.specs.declared.descriptor.PvRow.{PvRow}
use Rattle.lvm_num.specs.declared.descriptor.Descriptor.{Descriptor}

-- a member, which is a spare or none where it is on this disk
abbrev pub marked : ℕ → Bool → PvRow → PvRow
marked disk on row = if row.disk == disk then record row { spare = on } else row

-- the group with the member on this disk so
abbrev pub with_spare : ℕ → Bool → Descriptor → Descriptor
with_spare disk on d = record d { pvs = map (marked disk on) d.pvs }
