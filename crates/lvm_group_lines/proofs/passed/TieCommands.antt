-- Passed on from `lvm_tie_commands`.
pub use Rattle.lvm_tie_commands.proofs.BeginningLemmas.{made_stands, varied_on_stands}
pub use Rattle.lvm_tie_commands.proofs.CallsLemmas.{added_markable, has_volumes}
pub use Rattle.lvm_tie_commands.proofs.CommandsLemmas.Making.{mklv_goes_on}
pub use Rattle.lvm_tie_commands.proofs.CommandsLemmas.Removing.{rmlv_goes_on}
pub use Rattle.lvm_tie_commands.proofs.CopiesLemmas.Adding.{mklvcopy_goes_on, no_volume}
pub use Rattle.lvm_tie_commands.proofs.CopiesLemmas.Taking.{rmlvcopy_goes_on}
pub use Rattle.lvm_tie_commands.proofs.MomentsLemmas.{spans_follow}
pub use Rattle.lvm_tie_commands.proofs.Resting.{rests, landed}
pub use Rattle.lvm_tie_commands.proofs.ServingLemmas.Fewer.{rmlvcopy_serves}
pub use Rattle.lvm_tie_commands.proofs.ServingLemmas.More.{mklvcopy_serves}
pub use Rattle.lvm_tie_commands.proofs.SettledLemmas.Leaving.{tied_holds, its_disks_hold, its_rest}
pub use Rattle.lvm_tie_commands.proofs.CommandsLemmas.Tidying.{tidy_goes_on}
pub use Rattle.lvm_tie_commands.proofs.CommandsLemmas.Commands.{still_there}
pub use Rattle.lvm_tie_commands.proofs.BeginsLemmas.{Held}
pub use Rattle.lvm_tie_commands.proofs.CalmLemmas.{calm_since}
pub use Rattle.lvm_tie_commands.proofs.CommandsLemmas.Records.{data_stays}
pub use Rattle.lvm_tie_commands.proofs.CopiesLemmas.Sharing.{both_lists, holds_one}
