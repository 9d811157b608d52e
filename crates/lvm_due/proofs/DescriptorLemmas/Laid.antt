-- The volumes of a valid group are laid out.
use Rattle.std.proofs.Common.{◌≡◌, ℕ, ◌==◌, Some, subst}
use Rattle.lvm_num.specs.declared.descriptor.LvRow.{LvRow}
use Rattle.lvm_num.specs.declared.descriptor.Descriptor.{Descriptor}
use Rattle.lvm_num.specs.Descriptor.{IsLaidOut, IsValid, volume_of}
use Rattle.lvm_num.proofs.MarksLemmas.Maps.{find-Some}

pub laid_out : (d : Descriptor) (lv : ℕ) (row : LvRow) → IsValid d → volume_of d lv ≡ Some row → IsLaidOut row
laid_out d lv row valid is =
    let found = find-Some (λ (r : LvRow). r.number == lv) d.lvs row is in
    subst IsLaidOut (found.1.2 row) (valid.maps.laid_out found.1.0 row found.1.1)
