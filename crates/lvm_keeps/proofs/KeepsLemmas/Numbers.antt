-- The numbers of volumes.
use Rattle.std.proofs.Common.{◌≡◌, ◌==◌, ◌≤◌, ℕ, Some, subst, arith}
use Rattle.std.proofs.lemmas.Bool.{eqb-true}
use Rattle.lvm_num.specs.declared.descriptor.LvRow.{LvRow}
use Rattle.lvm_num.specs.declared.descriptor.Descriptor.{Descriptor}
use Rattle.lvm_num.specs.Descriptor.{IsValid, IsVolume, most_volumes, volume_of}
use Rattle.lvm_num.proofs.MarksLemmas.Maps.{find-Some}
use Rattle.lvm_num.proofs.DescriptorLemmas.Bounds.{few_volumes}

-- volumes are numbered from 1 to 511
pub numbered : (d : Descriptor) (lv : ℕ) (row : LvRow) → IsValid d → volume_of d lv ≡ Some row → (1 ≤ lv) × (lv ≤ 511)
numbered d lv row valid is =
    let found = find-Some (λ (r : LvRow). r.number == lv) d.lvs row is in
    let volume : IsVolume d.big row = subst (IsVolume d.big) (found.1.2 row) (valid.volumes.each found.1.0 row found.1.1) in
    let least : 1 ≤ row.number = volume.a_number in
    let most : row.number ≤ most_volumes d.big = volume.number in
    let few = few_volumes d.big in
    let same = eqb-true row.number lv found.0 in
    (omega (arith, least, same), omega (arith, most, few, same))
