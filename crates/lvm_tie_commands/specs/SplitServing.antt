-- A session that a split has left: that it is sound with requests too.
use Rattle.std.specs.Prelude.{ℕ, List, [], Result}
use Rattle.lvm_session.specs.State.{State}
use Rattle.lvm_session.specs.Sound.{IsSound}
use Rattle.lvm_split.specs.Splitting.{SplitGives, to_split}
use Rattle.lvm_tie_commands.specs.passed.VolumePlan.{GroupFault, IfOn}
use Rattle.lvm_tie_commands.specs.passed.Handover.{IsCommanded}
use Rattle.lvm_tie_commands.specs.Serving.{MayServeWith}

-- A sound session may be handed over without further copies after a split that leaves it on.
abbrev pub SplitLeavesServing : Type 0
SplitLeavesServing = (lv : ℕ) (name : List ℕ) (copies before after : ℕ) (old new : State) (answer : Result ℕ GroupFault)
    → IsSound old → IsCommanded (to_split lv name copies old.core) before after old new answer → SplitGives lv name copies before old new answer → IfOn answer (MayServeWith [] new)
