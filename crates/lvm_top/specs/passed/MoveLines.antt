-- Passed on from `lvm_move_lines` and the crates below it.
pub use Rattle.lvm_line.specs.passed.MoveLines.{MigratepvDoes, MovesCopies, NoGroupForMoves, NotAskedForMoves, NothingMoves}
