-- A session that is written out, of which a copy may leave a disk.
use Rattle.std.specs.Prelude.{◌≡◌, ◌≢◌, List, [], ◌∷◌, None, Some}
use Rattle.lvm_num.specs.declared.descriptor.Mode.{Mode}
use Rattle.lvm_session.specs.declared.open.Power.TheVariants as power
use Rattle.lvm_session.specs.State.{Core}
use Rattle.lvm_session.specs.Worked.{calm, core_of, mirrored}
use Rattle.lvm_session.specs.WorkedMoves.{free_destination}
use Rattle.lvm_move_plan.specs.declared.plan.PlannedMove.{PlannedMove}
use Rattle.lvm_move_plan.specs.Planned.{planned_moves}
use Rattle.lvm_migrate.specs.declared.fault.MoveFault.TheVariants as fault
use Rattle.lvm_migrate.specs.Migrating.{MayMigrate, migrate_refusal}

abbrev pub calm_core : Mode → Core
calm_core m = core_of (calm m)

-- The second copy of a volume that is mirrored on two of three disks may leave its disk for the third: nothing stands against it, and it alone moves. To the disk of the first copy it
-- may not.
pub record MayMigrateSo (m : Mode) : Type 0 where
  pub asked : MayMigrate (mirrored m) (Some 1) 1 2
  pub on : (calm_core m).power ≡ power.On
  pub epoch : (calm_core m).status.stamp.epoch ≢ 0
  pub fine : migrate_refusal (calm_core m) (Some 1) 1 2 ≡ None
  pub moves : planned_moves (calm_core m).descriptor (Some 1) 1 2 ≡ record { copy = record { lv = 1; lp = 0; number = 2 }; to = free_destination } ∷ []
  pub beside : migrate_refusal (calm_core m) None 1 0 ≡ Some (fault.Strict 0)

-- So it is in whatever mode the volume is.
abbrev pub MirrorsMayMigrate : Type 0
MirrorsMayMigrate = (m : Mode) → MayMigrateSo m
