-- Passed on from `lvm_migrate` and `lvm_move_plan`.
pub use Rattle.lvm_move_plan.specs.declared.plan.PlannedMove.{PlannedMove}
pub use Rattle.lvm_move_plan.specs.Laws.{after_move, after_moves}
pub use Rattle.lvm_move_plan.specs.Planned.{planned_moves}
pub use Rattle.lvm_migrate.specs.Committed.{stages}
