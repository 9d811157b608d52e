-- The descriptors of a group with one volume more, and with one less.
use Rattle.std.specs.Prelude.{◌≡◌, ℕ, ◌+◌, ◌-◌, ◌<◌, ◌≤◌, ◌==◌, not, List, length, slice_index_or, insert, filter, None, IsSome}
use Rattle.lvm_num.specs.declared.place.Pp.{Pp}
use Rattle.lvm_num.specs.declared.descriptor.LvRow.{LvRow}
use Rattle.lvm_num.specs.declared.descriptor.Descriptor.{Descriptor}
use Rattle.lvm_num.specs.Descriptor.{volume_of}
use Rattle.lvm_volume_plan.specs.declared.new_volume.NewVolume.{NewVolume}

-- the lowest number from 1 that no volume has
pub record IsLowestFree (d : Descriptor) (number : ℕ) : Type 0 where
  pub least : 1 ≤ number
  pub free : volume_of d number ≡ None
  pub lower : (n : ℕ) → 1 ≤ n → n < number → IsSome (volume_of d n)

-- the volumes before the place of the number have lower ones, and those from there on greater ones
pub record IsInOrder (d : Descriptor) (number : ℕ) : Type 0 where
  pub within : number ≤ length d.lvs + 1
  pub before : (k : ℕ) (e : LvRow) → k + 1 < number → (slice_index_or d.lvs k e).number < number
  pub behind : (k : ℕ) (e : LvRow) → number ≤ k + 1 → k < length d.lvs → number < (slice_index_or d.lvs k e).number

-- the volume of this number, with this map
abbrev pub row_for : NewVolume → ℕ → List Pp → LvRow
row_for v number map = record { number = number; name = v.name; copies = v.copies; mode = v.mode; policy = v.policy; lps = v.lps; map = map }

-- The group with one volume more, whose number is the lowest that was free: its row stands behind those of all lower numbers.
abbrev pub with_volume : Descriptor → LvRow → Descriptor
with_volume d row = record d { lvs = insert d.lvs (row.number - 1) row }

-- the group without the volume of a number
abbrev pub without_volume : Descriptor → ℕ → Descriptor
without_volume d lv = record d { lvs = filter (λ row. not (row.number == lv)) d.lvs }
