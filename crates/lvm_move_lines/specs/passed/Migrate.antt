-- Passed on from `lvm_migrate`.
pub use Rattle.lvm_migrate.specs.declared.fault.MoveFault.{MoveFault}
pub use Rattle.lvm_migrate.specs.Migrating.{GoesBesideMoving, HaveMoved, IsLeftEmpty, MigrateGives, MoveCause, StandMoved, migrate_refusal}
