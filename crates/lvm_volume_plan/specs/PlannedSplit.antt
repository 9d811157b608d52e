-- What a split is begun with.
use Rattle.std.specs.Prelude.{◌≡◌, ℕ, ◌&&◌, List}
use Rattle.lvm_num.specs.declared.descriptor.LvRow.{LvRow}
use Rattle.lvm_num.specs.Descriptor.{IsValid}
use Rattle.lvm_num.specs.Modes.{is_passive}
use Rattle.lvm_num.specs.Status.{calls_dirty}
use Rattle.lvm_session.specs.State.{Core}
use Rattle.lvm_volume_plan.specs.declared.split.SplitPlan.{SplitPlan}
use Rattle.lvm_volume_plan.specs.NewVolume.{IsLowestFree, IsInOrder}
use Rattle.lvm_volume_plan.specs.PlannedVolume.{AreOfOneGroup}
use Rattle.lvm_volume_plan.specs.Split.{MayBeSplit, with_split}

-- Nothing stands against the split: the new volume has the lowest free number and is dirty where the old one, in mode passive, is; and the next descriptor is the
-- one with both.
pub record IsPlannedSplit (lv : ℕ) (name : List ℕ) (copies : ℕ) (core : Core) (plan : SplitPlan) : Type 0 where
  pub group : AreOfOneGroup core
  pub row : LvRow
  pub may : MayBeSplit lv name copies core row
  pub from : plan.from ≡ lv
  pub lowest : IsLowestFree core.descriptor plan.number
  pub order : IsInOrder core.descriptor plan.number
  pub dirty : plan.dirty ≡ is_passive row.mode && calls_dirty core.status.committed lv
  pub is : plan.next ≡ with_split core.descriptor row copies plan.number name
  pub valid : IsValid plan.next
