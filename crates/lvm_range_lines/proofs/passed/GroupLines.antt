-- Passed on from `lvm_group_lines`.
pub use Rattle.lvm_group_lines.proofs.Coming.{clock_is_ahead}
pub use Rattle.lvm_group_lines.proofs.EndsLemmas.{one_refused, refused_ends}
pub use Rattle.lvm_group_lines.proofs.FactsLemmas.{Bears, bears_cut, bears_given_up, landed_bears, open_more}
pub use Rattle.lvm_group_lines.proofs.Listing.{there}
pub use Rattle.lvm_group_lines.proofs.LightingLemmas.{ready_is_lit, still_leaves_descriptors}
pub use Rattle.lvm_group_lines.proofs.MomentsLemmas.Going.{asked_goes, relit_path, same_goes, was_session}
pub use Rattle.lvm_group_lines.proofs.MomentsLemmas.Running.{IsRun, closed_ahead, over_goes, over_landed}
pub use Rattle.lvm_group_lines.proofs.StagesLemmas.Leaving.{left_still}
pub use Rattle.lvm_group_lines.proofs.StagesLemmas.Staging.{asked_stays}
pub use Rattle.lvm_group_lines.proofs.StateLemmas.{LeavesAnswers, answered_bears, answered_on, end_posts, none_held, on_posts}
