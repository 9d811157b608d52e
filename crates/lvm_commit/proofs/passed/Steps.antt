-- Passed on from `lvm_steps`.
pub use Rattle.lvm_steps.proofs.LawsLemmas.Shelves.{data_stays_behind, earlier_stays_behind}
pub use Rattle.lvm_steps.proofs.LawsLemmas.Stamps.{session_is_before_later}
pub use Rattle.lvm_steps.proofs.ChangesLemmas.{put_keeps, serving}
pub use Rattle.lvm_steps.proofs.EnteringLemmas.{calm_goes_on, quiet_goes_on}
pub use Rattle.lvm_steps.proofs.GroupLemmas.Members.{member_of_parts}
pub use Rattle.lvm_steps.proofs.GroupLemmas.Passing.{at_passing, none_passing, passes_none, some_passing}
pub use Rattle.lvm_steps.proofs.MakingLemmas.Making.{media_may}
pub use Rattle.lvm_steps.proofs.MomentsLemmas.Spans.{keeps_path, later_append}
pub use Rattle.lvm_steps.proofs.RecordLemmas.{clash}
