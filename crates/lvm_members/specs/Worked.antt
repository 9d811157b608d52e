-- A session that is written out, of which a member may be a spare.
use Rattle.std.specs.Prelude.{true, false}
use Rattle.lvm_num.specs.declared.descriptor.Mode.{Mode}
use Rattle.lvm_session.specs.State.{Core}
use Rattle.lvm_session.specs.Worked.{calm, core_of}
use Rattle.lvm_members.specs.Spares.{MayBeMarked, RefusesSpare}
use Rattle.lvm_members.specs.declared.spare.SpareFault.TheVariants as fault

abbrev pub calm_core : Mode → Core
calm_core m = core_of (calm m)

-- A volume is mirrored on two of three disks. The third may be a spare, and the first may not, since the volume has a partition there; that none is a spare may be said of each.
pub record MayHaveSpares (m : Mode) : Type 0 where
  pub third : MayBeMarked 2 true (calm_core m)
  pub first : RefusesSpare 0 true (calm_core m) (fault.DiskInUse 0)
  pub none : MayBeMarked 0 false (calm_core m)

-- So it is in whatever mode the volume is.
abbrev pub MirrorsMayHaveSpares : Type 0
MirrorsMayHaveSpares = (m : Mode) → MayHaveSpares m
