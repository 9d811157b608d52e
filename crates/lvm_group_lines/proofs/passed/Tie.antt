-- Passed on from `lvm_going` and `lvm_going_laws`.
pub use Rattle.lvm_going_laws.proofs.GoingLemmas.{going_leaves}
pub use Rattle.lvm_going_laws.proofs.MovingLemmas.{going_moves_on, leaves_move_on, moved_stamped, moves_find_theirs}
pub use Rattle.lvm_going_laws.proofs.StatusesLemmas.{is_stamped, stays_stamped}
pub use Rattle.lvm_tie_commands.proofs.passed.Tie.{goes_any, order_leaves, path_frames, path_shape, runs_both, runs_none, stays_unstuck}
