-- Passed on from `lvm_group_lines`.
pub use Rattle.lvm_range_lines.proofs.passed.GroupLines.{Bears, answered_bears, asked_goes, asked_stays, bears_cut, bears_given_up, clock_is_ahead, closed_ahead, landed_bears, left_still, one_refused, over_goes, refused_ends, same_goes}
