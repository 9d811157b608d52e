-- What a `migratepv` asks for of the group that is on.
use Rattle.std.specs.Prelude.{◌≡◌, ℕ, List, Option, Some, None, Result, MatchResult, if◌then◌else◌}
use Rattle.lvm_num.specs.declared.descriptor.Descriptor.{Descriptor}
use Rattle.lvm_num.specs.declared.descriptor.LvRow.{LvRow}
use Rattle.lvm_num.specs.Descriptor.{is_member}
use Rattle.lvm_core.specs.Looking.{IsNumberOf, HasNoVolumeNamed}
use Rattle.lvm_range_lines.specs.passed.GroupLines.{Refusal}
use Rattle.lvm_range_lines.specs.passed.RefusalVariants as refusal

-- the first of two disks that is no member of the group
abbrev pub first_outside : Descriptor → ℕ → ℕ → Option ℕ
first_outside d from to = if is_member d from then (if is_member d to then None else Some to) else Some from

-- the volume of the name, or all of them where none is named
abbrev pub IsNamed : List LvRow → Option (List ℕ) → Option ℕ → Type 0
IsNamed volumes None None = Unit {0}
IsNamed volumes (Some name) (Some lv) = IsNumberOf volumes name lv
IsNamed volumes named lv = ⊥

-- Both disks are members, and this volume, or all, have the copies that are to move.
pub record IsAsked (d : Descriptor) (volume : Option (List ℕ)) (from to : ℕ) (lv : Option ℕ) : Type 0 where
  pub members : first_outside d from to ≡ None
  pub named : IsNamed d.lvs volume lv

-- Why nothing can be asked for: the first disk that is no member; then that no volume has the name.
abbrev pub IsNotAsked : Descriptor → Option (List ℕ) → ℕ → ℕ → Refusal → Type 0
IsNotAsked d volume from to (refusal.NoDisk disk) = first_outside d from to ≡ Some disk
IsNotAsked d volume from to refusal.NoVolume = (first_outside d from to ≡ None) × ((name : List ℕ) × (volume ≡ Some name) × HasNoVolumeNamed d.lvs name)
IsNotAsked d volume from to other = ⊥

-- one or the other
abbrev pub Asks : Descriptor → Option (List ℕ) → ℕ → ℕ → Result (Option ℕ) Refusal → Type 0
Asks d volume from to asked = MatchResult asked (IsAsked d volume from to) (IsNotAsked d volume from to)
