-- Passed on from `lvm_range_lines`.
pub use Rattle.lvm_range_lines.proofs.CausesLemmas.{posts_have_causes}
pub use Rattle.lvm_range_lines.proofs.EndsLemmas.{between_now, ends_with, fits_now, held_by, refused_as, still_as, none_moves}
pub use Rattle.lvm_range_lines.proofs.LeavingLemmas.Ending.{RunsTo, carried_ends, carried_leaves, ended_is_over, leave_to, over_ends, stuck_ends, unstuck}
pub use Rattle.lvm_range_lines.proofs.LeavingLemmas.Posting.{table_posts}
pub use Rattle.lvm_range_lines.proofs.LookingLemmas.{none_named}
