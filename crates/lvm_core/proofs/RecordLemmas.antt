-- How long the bytes of a descriptor are at most: they fit their slot.
use Rattle.std.proofs.Common.{◌≡◌, ◌+◌, ◌*◌, ◌≤◌, Bool, List, [], ◌∷◌, length, refl, arith, length-append}
use Rattle.std.specs.Prelude.{flat_map, All}
use Rattle.std.proofs.lemmas.List.Elements.{All-head, All-tail}
use Rattle.lvm_num.specs.declared.place.Pp.{Pp}
use Rattle.lvm_num.specs.declared.descriptor.PvRow.{PvRow}
use Rattle.lvm_num.specs.declared.descriptor.LvRow.{LvRow}
use Rattle.lvm_num.specs.declared.descriptor.Descriptor.{Descriptor}
use Rattle.lvm_num.specs.declared.record.Kind.TheVariants as kind
use Rattle.lvm_num.specs.Descriptor.{IsValid, IsVolume, partitions_in}
use Rattle.lvm_num.specs.DescriptorBytes.{member_bytes, volume_bytes, partition_bytes, descriptor_bytes}
use Rattle.lvm_num.specs.Name.{padded}
use Rattle.lvm_num.specs.Record.{longest_content}
use Rattle.lvm_num.proofs.NameLemmas.{length-name, length-padded}
use Rattle.lvm_num.proofs.DescriptorLemmas.Bounds.{few_members, few_volumes}
use Rattle.lvm_status.proofs.DescriptorLemmas.{few_partitions}

-- ---- a descriptor

members_size : (rows : List PvRow) → length (flat_map member_bytes rows) ≡ 8 * length rows
members_size [] = refl
members_size (row ∷ rows) = omega (arith, length-append (member_bytes row) (flat_map member_bytes rows), members_size rows)

volumes_size : (big : Bool) (rows : List LvRow) → All (IsVolume big) rows → length (flat_map volume_bytes rows) ≡ 32 * length rows
volumes_size big [] all = refl
volumes_size big (row ∷ rows) all = omega (arith, length-append (volume_bytes row) (flat_map volume_bytes rows), one row (All-head (IsVolume big) row rows all), volumes_size big rows (All-tail (IsVolume big) row rows all))
  where
    one : (row : LvRow) → IsVolume big row → length (volume_bytes row) ≡ 32
    one row is = let short = length-name row.name is.name in omega (arith, length-append (padded row.name) (0 ∷ 0 ∷ 0 ∷ 0 ∷ []), length-padded row.name (omega (arith, short)))

map_size : (pps : List Pp) → length (flat_map partition_bytes pps) ≡ 4 * length pps
map_size [] = refl
map_size (p ∷ pps) = omega (arith, length-append (partition_bytes p) (flat_map partition_bytes pps), map_size pps)

maps_size : (rows : List LvRow) → length (flat_map (λ (row : LvRow). flat_map partition_bytes row.map) rows) ≡ 4 * length (partitions_in rows)
maps_size [] = refl
maps_size (row ∷ rows) =
    omega (arith, length-append (flat_map partition_bytes row.map) (flat_map (λ (r : LvRow). flat_map partition_bytes r.map) rows), map_size row.map, maps_size rows, length-append row.map (partitions_in rows))

pub descriptor_fits : (d : Descriptor) → IsValid d → length (descriptor_bytes d) ≤ longest_content kind.Descriptor
descriptor_fits d valid =
    let short = length-name d.name valid.head.name in
    let few : length (partitions_in d.lvs) ≤ 130048 = few_partitions d valid in
    omega (arith, size, length-padded d.name (omega (arith, short)), members_size d.pvs, volumes_size d.big d.lvs valid.volumes.each, maps_size d.lvs, valid.head.members, few_members d.big, valid.head.volumes, few_volumes d.big, few)
  where
    size : length (descriptor_bytes d)
        ≡ 32 + length (padded d.name) + length (flat_map member_bytes d.pvs) + length (flat_map volume_bytes d.lvs) + length (flat_map (λ (row : LvRow). flat_map partition_bytes row.map) d.lvs)
    size = simp length-append (omega arith)
