use Rattle.lvm_session.proofs.WorkedLemmas.Worked.{standing_still_is_unsound}
use Rattle.lvm_session.proofs.laws.standing_still_is_unsound.Goals as goal

pub returns : goal.returns
returns c = standing_still_is_unsound
