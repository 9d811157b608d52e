-- What is looked up in a descriptor.
use Rattle.std.specs.Prelude.{◌≡◌, ℕ, List, Contains}
use Rattle.lvm_num.specs.declared.descriptor.LvRow.{LvRow}

-- the number of the volume of a name
pub record IsNumberOf (volumes : List LvRow) (name : List ℕ) (number : ℕ) : Type 0 where
  pub row : LvRow
  pub among : Contains volumes row
  pub named : row.name ≡ name
  pub its : row.number ≡ number

-- no volume has the name
abbrev pub HasNoVolumeNamed : List LvRow → List ℕ → Type 0
HasNoVolumeNamed volumes name = (row : LvRow) → Contains volumes row → row.name ≡ name → ⊥
