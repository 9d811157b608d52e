use Rattle.lvm_steps.proofs.LawsLemmas.Stamps.{later_is_after_too, later_is_ahead_too, session_is_from_moment, session_is_before_later, behind_is_before, before_is_behind}
use Rattle.lvm_steps.proofs.stamps.later_is_after_too.Goals as goal

pub returns : goal.returns
returns c = record { stamps = later_is_after_too; moments = later_is_ahead_too; session = session_is_from_moment; earlier = session_is_before_later; before = behind_is_before; behind = before_is_behind }
