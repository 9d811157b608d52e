-- The volume of a number, as it is looked up.
use Rattle.std.proofs.Common.{◌≡◌, ℕ, List, Option, Some, ap, sym, ◌∙◌}
use Rattle.std.specs.Prelude.{◌==◌, find}
use Rattle.lvm_num.specs.declared.descriptor.LvRow.{LvRow}
use Rattle.lvm_num.specs.declared.descriptor.Descriptor.{Descriptor}
use Rattle.lvm_num.specs.Descriptor.{volume_of}
use Rattle.lvm_map.proofs.PlacesLemmas.{volume_at, volume_is}

-- it is the group's
pub found_is : (g d : Descriptor) (lv : ℕ) (rows : List LvRow) (row : LvRow) → Some row ≡ find (λ (r : LvRow). r.number == lv) rows → rows ≡ d.lvs → d ≡ g → volume_of g lv ≡ Some row
found_is g d lv rows row is of same = volume_is g lv rows row is (of ∙ ap (λ (x : Descriptor). x.lvs) same)

-- and the only one
pub one_volume : (o : Option LvRow) (a b : LvRow) → o ≡ Some a → o ≡ Some b → a ≡ b
one_volume o a b is also = cc

-- by its own number, in the same group
pub own_number : (d : Descriptor) (lv : ℕ) (row : LvRow) → Some row ≡ volume_of d lv → row.number ≡ lv
own_number d lv row is = (volume_at d lv row (sym is)).its

pub by_own_number : (d g : Descriptor) (lv : ℕ) (row : LvRow) → Some row ≡ volume_of d lv → d ≡ g → volume_of g row.number ≡ Some row
by_own_number d g lv row is same = (λ t. volume_of (sym same t) (own_number d lv row is t)) ∙ sym is
