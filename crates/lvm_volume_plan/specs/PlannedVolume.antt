-- What a volume's making and removal are begun with.
use Rattle.std.specs.Prelude.{◌≡◌, ℕ, []}
use Rattle.lvm_num.specs.declared.descriptor.Descriptor.{Descriptor}
use Rattle.lvm_num.specs.Descriptor.{IsValid}
use Rattle.lvm_num.specs.Geometry.{volume_blocks}
use Rattle.lvm_core.specs.passed.Session.{Core}
use Rattle.lvm_volume_plan.specs.declared.new_volume.VolumePlan.{VolumePlan}
use Rattle.lvm_volume_plan.specs.declared.new_volume.NewVolume.{NewVolume}
use Rattle.lvm_volume_plan.specs.NewVolume.{IsLowestFree, IsInOrder, row_for, with_volume, without_volume}
use Rattle.lvm_volume_plan.specs.Faults.{MayBeMade, MayBeRemoved}

-- the session's descriptor is valid, and its status is of the same group
pub record AreOfOneGroup (core : Core) : Type 0 where
  pub valid : IsValid core.descriptor
  pub status : core.status.group ≡ record core.descriptor { lvs = [] }

-- Nothing stands against the volume, which has the lowest free number, this map and these blocks; and the next descriptor is the one with it.
pub record IsPlannedVolume (v : NewVolume) (core : Core) (plan : VolumePlan) : Type 0 where
  pub group : AreOfOneGroup core
  pub may : MayBeMade v core plan.map
  pub lowest : IsLowestFree core.descriptor plan.number
  pub order : IsInOrder core.descriptor plan.number
  pub blocks : plan.blocks ≡ volume_blocks core.descriptor.mib v.lps
  pub mode : plan.mode ≡ v.mode
  pub next : plan.next ≡ with_volume core.descriptor (row_for v plan.number plan.map)

-- nothing stands against the removal of the volume, and the next descriptor is the one without it
pub record IsWithout (lv : ℕ) (core : Core) (next : Descriptor) : Type 0 where
  pub group : AreOfOneGroup core
  pub may : MayBeRemoved lv core
  pub is : next ≡ without_volume core.descriptor lv
