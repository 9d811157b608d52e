-- Passed on from `lvm_move_lines` and the crates below it.
pub use Rattle.lvm_move_lines.specs.Asking.{IsAsked, IsNamed, IsNotAsked}
pub use Rattle.lvm_move_lines.specs.Moving.{IsMigrated, MayHaveMoved, MigratepvDoes, MovesCopies, NoGroupForMoves, NotAskedForMoves, NothingMoves, move_reply}
pub use Rattle.lvm_move_lines.specs.passed.Migrate.{MoveFault}
pub use Rattle.lvm_move_lines.specs.passed.MovePlan.{PlannedMove, after_move, after_moves, planned_moves, stages}
