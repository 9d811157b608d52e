-- What the addition and the removal of copies are begun with.
use Rattle.std.specs.Prelude.{◌≡◌, ℕ, List}
use Rattle.lvm_num.specs.declared.place.Pp.{Pp}
use Rattle.lvm_num.specs.declared.descriptor.LvRow.{LvRow}
use Rattle.lvm_num.specs.declared.descriptor.Descriptor.{Descriptor}
use Rattle.lvm_num.specs.Descriptor.{IsValid}
use Rattle.lvm_session.specs.State.{Core}
use Rattle.lvm_volume_plan.specs.PlannedVolume.{AreOfOneGroup}
use Rattle.lvm_volume_plan.specs.Copies.{with_map, with_copies, first_copies, further_copies}
use Rattle.lvm_volume_plan.specs.CopiesFaults.{MayBeAdded, MayBeTaken}

-- Nothing stands against so many copies; these are the further ones, and the next descriptor is the one with them.
pub record ArePlanned (lv copies : ℕ) (core : Core) (added : List Pp) (next : Descriptor) : Type 0 where
  pub group : AreOfOneGroup core
  pub row : LvRow
  pub pps : List Pp
  pub may : MayBeAdded lv copies core row pps
  pub added_is : added ≡ further_copies (with_map row copies pps) row.copies
  pub is : next ≡ with_copies core.descriptor lv copies pps
  pub valid : IsValid next

-- nothing stands against so few copies, and the next descriptor is the one in which the volume keeps the first ones
pub record IsWithFewer (lv copies : ℕ) (core : Core) (next : Descriptor) : Type 0 where
  pub group : AreOfOneGroup core
  pub row : LvRow
  pub may : MayBeTaken lv copies core row
  pub is : next ≡ with_copies core.descriptor lv copies (first_copies row copies)
  pub valid : IsValid next
