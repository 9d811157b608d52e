-- The copies of sessions that are written out may be rebuilt.
use Rattle.std.proofs.Common.{refl}
use Rattle.lvm_num.specs.declared.descriptor.Mode.TheVariants as mode
use Rattle.lvm_num.specs.Bits.{has_bit}
use Rattle.lvm_rebuild.specs.Worked.{MirrorsMayBeRebuilt}

pub mirrors_may_be_rebuilt : MirrorsMayBeRebuilt
unfolding has_bit
mirrors_may_be_rebuilt mode.Active = record { members = refl; copies = refl; fine = refl; third = refl; further = refl; beside = refl; stale = refl }
mirrors_may_be_rebuilt mode.Passive = record { members = refl; copies = refl; fine = refl; third = refl; further = refl; beside = refl; stale = refl }
mirrors_may_be_rebuilt mode.Off = record { members = refl; copies = refl; fine = refl; third = refl; further = refl; beside = refl; stale = refl }
