-- The bytes of a descriptor, part by part.
use Rattle.std.specs.Prelude.{ℕ, Bool, true, not, nat_le, ◌==◌, List, [], ◌&&◌, nat_lt, bytes_eq, Result, Ok, ◌++◌, ◌∷◌, length, replicate, flat_map}
use Rattle.std.specs.List.{list_any, list_all}
use Rattle.std.specs.Int.{w8, w16, w32, w64, to_be_bytes}
use Rattle.lvm_num.specs.declared.descriptor.Descriptor.{Descriptor}
use Rattle.lvm_num.specs.Name.{padded}
use Rattle.lvm_num.specs.DescriptorBytes.{flag, descriptor_magic, member_bytes, volume_bytes, partition_bytes}

-- the bytes of a descriptor before its rows
abbrev pub head_bytes : Descriptor → List ℕ
head_bytes d =
    descriptor_magic d.big ++ to_be_bytes w64 d.id ++ padded d.name ++ to_be_bytes w16 d.mib ++ flag d.quorum ∷ flag d.even ∷ []
    ++ to_be_bytes w16 (length d.pvs) ++ to_be_bytes w16 (length d.lvs) ++ replicate 12 0

-- the bytes of the rows, and then those of the partitions
abbrev pub row_bytes : Descriptor → List ℕ
row_bytes d = flat_map member_bytes d.pvs ++ flat_map volume_bytes d.lvs ++ flat_map (λ row. flat_map partition_bytes row.map) d.lvs
